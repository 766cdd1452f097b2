-- What the leaves and the matcher of a validator are, seen as functions.
use Rattle.std.specs.Prelude.{List, Bool, true, false}
use Rattle.serde_json.specs.Data.{Data}
use Rattle.olk_spec.specs.Names.{Text, Name}

-- what a matcher says of a name
pub data Says : Type 0 where
  matched : Says
  unmatched : Says
  unfinished : Says

-- u is the answer for an unfinished match
abbrev pub reads_as : Bool → Says → Bool
reads_as u matched = true
reads_as u unmatched = false
reads_as u unfinished = u

abbrev pub is_unfinished : Says → Bool
is_unfinished matched = false
is_unfinished unmatched = false
is_unfinished unfinished = true

pub record World : Type 0 where
  -- is this name a leaf keyword, does it take this value, and what does it say of an instance (nothing: it accepts)
  pub reads : Name → Bool
  pub fits : Name → Data → Bool
  pub faults : Name → Data → Data → List Text
  -- is this a pattern, and what does it say of a name
  pub builds : Text → Bool
  pub says : Text → Name → Says
