-- What the definitions answer for small documents and values over the bench, in the form in which worked rows compare it.
use Rattle.std.specs.Prelude.{◌≡◌, ℕ, Bool, true, false, List, [], map, codes}
use Prim.Native.String.{String as Quoted}
use Rattle.serde_json.specs.Data.{Data}
use Rattle.olk_spec.specs.Json.{json}
use Rattle.olk_spec.specs.Bench.{bench}
use Rattle.olk_spec.specs.Tree.{is_valid}
use Rattle.olk_spec.specs.Meanings.{Meaning}
use Rattle.olk_spec.specs.Answers.{lines}
use Rattle.olk_spec.specs.Forms.{tree_text}
use Rattle.olk_document_spec.specs.Documents.{document_meaning}
use Rattle.olk_document_spec.specs.Malformed.{document_malformations}

-- S is the text of a document and v that of a value
abbrev pub meaning_of : Bool → Quoted → Meaning
meaning_of u S = document_meaning bench u (json S)

-- under either answer for unfinished matches: the verdict, the verdict of the tree, and the faults
abbrev pub Holds_of : Meaning → Data → Type 0
Holds_of m v = (m.accepts v ≡ true) × (is_valid (m.tree v [] []) ≡ true) × (lines (m.report v [] []) ≡ [])

abbrev pub Fails_of : Meaning → Data → List Quoted → Type 0
Fails_of m v ls = (m.accepts v ≡ false) × (is_valid (m.tree v [] []) ≡ false) × (lines (m.report v [] []) ≡ map codes ls)

abbrev pub Holds : Quoted → Quoted → Type 0
Holds S v = (u : Bool) → Holds_of (meaning_of u S) (json v)

abbrev pub Fails : Quoted → Quoted → List Quoted → Type 0
Fails S v ls = (u : Bool) → Fails_of (meaning_of u S) (json v) ls

-- the whole tree, as text
abbrev pub Has_tree : Quoted → Quoted → Quoted → Type 0
Has_tree S v t = (u : Bool) → tree_text ((meaning_of u S).tree (json v) [] []) ≡ codes t

-- how many matchers a verdict may ask
abbrev pub Asks : Quoted → Quoted → ℕ → Type 0
Asks S v n = (u : Bool) → (meaning_of u S).asks (json v) ≡ n

-- all malformations of a document
abbrev pub Is_refused : Quoted → List Quoted → Type 0
Is_refused S ls = lines (document_malformations bench (json S)) ≡ map codes ls

abbrev pub Builds : Quoted → Type 0
Builds S = lines (document_malformations bench (json S)) ≡ []
