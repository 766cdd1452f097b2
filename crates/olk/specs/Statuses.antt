-- How far a run came: of an instance, of what is read, of one after another.
use Rattle.std.specs.Prelude.{◌≡◌, ◌⊎◌, ℕ, Bool, true, false, List, [], ◌∷◌, length, Option, Some, None, IsUtf8}
use Rattle.serde_json.specs.Data.{Data}
use Rattle.serde_json.specs.Read.{read}
use Rattle.olk_spec.specs.Names.{Text}
use Rattle.olk_spec.specs.World.{World}
use Rattle.olk_regexes.specs.Says.{builds, says}
use Rattle.olk_vocabulary.specs.Vocabulary.{vocabulary_reads, vocabulary_fits, vocabulary_faults}
use Rattle.olk.specs.Documents.{accepts}
use Rattle.olk.specs.declared.console.Status.{Status}
use Rattle.olk.specs.declared.console.Status.TheVariants.{Valid, Invalid, Failed, Memory}

-- of an instance that is accepted or not
abbrev pub status_of : Bool → Status
status_of true = Valid
status_of false = Invalid

abbrev pub code_of : Status → ℕ
code_of Valid = 0
code_of Invalid = 1
code_of Failed = 2
code_of Memory = 3

-- of an error that ends a run
abbrev pub IsFailure : Status → Type 0
IsFailure s = (s ≡ Failed) ⊎ (s ≡ Memory)

-- the worse of two
abbrev pub worse : Status → Status → Status
worse Valid t = t
worse Invalid Valid = Invalid
worse Invalid t = t
worse Failed Memory = Memory
worse Failed t = Failed
worse Memory t = Memory

-- whether a text is JSON that `serde_json` reads
abbrev pub IsReadAs : Text → Data → Type 0
IsReadAs text v = IsUtf8 text × (read text ≡ Some v)

abbrev pub IsUnread : Text → Type 0
IsUnread text = IsUtf8 text → read text ≡ None

-- what is read for an instance: a text, or nothing where that failed; and the status of it by a schema S
abbrev pub IsStatusOf : World → Data → Option Text → Status → Type 0
IsStatusOf W S None s = s ≡ Failed
IsStatusOf W S (Some text) s = ((v : Data) × IsReadAs text v × (s ≡ status_of (accepts W false S v))) ⊎ (IsUnread text × (s ≡ Failed))

-- what is read is checked one after another, from one status to another
abbrev pub IsChecked : World → Data → Status → List (Option Text) → Status → Type 0
IsChecked W S old [] new = new ≡ old
IsChecked W S old (it ∷ rest) new = (s : Status) × IsStatusOf W S it s × IsChecked W S (worse old s) rest new

-- the vocabulary, and regular expressions
abbrev pub vocabulary_world : World
vocabulary_world = record { reads = vocabulary_reads; fits = vocabulary_fits; faults = vocabulary_faults; builds = builds; says = says }

-- a run by a schema S: it can't be used; or what is read is checked, of each path one text, unless each line is a value
abbrev pub IsRunBy : Data → Bool → ℕ → Status → Type 0
IsRunBy S has_lines paths s = (s ≡ Failed) ⊎ ((them : List (Option Text)) × IsChecked vocabulary_world S Valid them s × (has_lines ≡ false → length them ≡ paths))
