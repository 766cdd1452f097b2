-- What a leaf set and a matcher are, what their answers mean, and what asking them counts.
use Rattle.std.specs.Prelude.{◌≡◌, List, [], Bool, true, false, Result, Ok, Err, Option, map, String, string_bytes, MatchOption, Contains}
use Rattle.std.specs.declared.alloc.Global.{Global}
use Rattle.serde_json.specs.Data.{Data}
use Rattle.olk_spec.specs.Names.{Text, Name}
use Rattle.olk_spec.specs.World.{World, Says, matched, unmatched, unfinished}
use Rattle.olk_base.specs.declared.traits.Unfinished.{Unfinished}
use Rattle.olk_base.specs.declared.traits.MakeError.{MakeError}
use Rattle.olk_base.specs.declared.traits.MakeError.TheVariants.{Refused, Memory}
use Rattle.olk_base.specs.Count.{Counts, count_asked, count_unfinished}

-- the leaves K and the matcher R, by what their types say: `world K.reads K.fits K.faults R.builds R.says`
abbrev pub world : (Name → Bool) → (Name → Data → Bool) → (Name → Data → Data → List Text) → (Text → Bool) → (Text → Name → Says) → World
world reads fits faults builds says = record { reads = reads; fits = fits; faults = faults; builds = builds; says = says }

-- a matcher with no leaves beside it
abbrev pub matcher : (Text → Bool) → (Text → Name → Says) → World
matcher builds says = world (λ k. false) (λ k x. false) (λ k x v. []) builds says

-- the answer of a call, as what the matcher says
abbrev pub said : Result Bool Unfinished → Says
said (Ok true) = matched
said (Ok false) = unmatched
said (Err e) = unfinished

abbrev pub IsRefused : MakeError → Type 0
IsRefused Refused = Unit {0}
IsRefused (Memory e) = ⊥

abbrev pub texts_of : List (String Global) → List Text
texts_of strings = map string_bytes strings

-- none where there is no text, and otherwise one of them
abbrev pub IsOneOf : List Text → Option (String Global) → Type 0
IsOneOf texts o = MatchOption o (texts ≡ []) (λ s. Contains texts (string_bytes s))

-- ---- what is counted

-- an engine that costs is counted
abbrev pub count_ask : Bool → Counts → Counts
count_ask true c = count_asked c
count_ask false c = c

-- what one call of a validator hands down: the answer for unfinished matches, and the counts
pub record Asking : Type 0 where
  pub answer : Bool
  pub meter : Counts

abbrev pub count_if_unfinished : Says → Counts → Counts
count_if_unfinished matched c = c
count_if_unfinished unmatched c = c
count_if_unfinished unfinished c = count_unfinished c

-- after an engine was asked: whether it costs, and what it said
abbrev pub asked_of : Bool → Says → Asking → Asking
asked_of cost s a = record a { meter = count_if_unfinished s (count_ask cost a.meter) }
