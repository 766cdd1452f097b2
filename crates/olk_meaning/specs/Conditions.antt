-- What a member of a schema object has to know of its neighbours: when `if` is read, and `then` and `else` with it; whether members that no pattern matches are held to anything, and then which are declared.
use Rattle.std.specs.Prelude.{◌≡◌, ◌&&◌, ◌||◌, Bool, true, false, cond, List, [], ◌∷◌, codes, Option, Some, None, is_some, String}
use Rattle.serde_json.specs.Data.{Data, Members}
use Rattle.olk_spec.specs.Names.{Name, lookup_name, is_among}
use Rattle.olk_spec.specs.Schemas.{listed, is_object, is_truth}
use Rattle.std.specs.{declared.alloc.Global.Global, BTreeMap.BTreeMap}
use Rattle.serde_json.specs.{View.members_view, declared.value.Value.Value}
use Rattle.olk_meaning.specs.{AdditionalProperties.declared_beside, declared.neighbours.Neighbours.Neighbours}

-- `if` stands beside `then` or `else` in a schema object with these members
abbrev pub is_condition : Members → Bool
is_condition ms = is_some (lookup_name (codes "if") (listed ms)) && (is_some (lookup_name (codes "then") (listed ms)) || is_some (lookup_name (codes "else") (listed ms)))

-- one of the three keywords that are read together
abbrev pub is_conditional_name : Name → Bool
is_conditional_name k = is_among k (codes "if" ∷ codes "then" ∷ codes "else" ∷ [])

-- `additionalProperties` is false or an object
abbrev pub is_restriction : Option Data → Bool
is_restriction None = false
is_restriction (Some d) = is_truth false d || is_object d

abbrev pub is_restricted : Members → Bool
is_restricted ms = is_restriction (lookup_name (codes "additionalProperties") (listed ms))

-- what is known of the neighbours where a value is read: whether `if` is read there, and the entries of `properties` of whose names the patterns are asked; these are none where other members are not restricted
pub record Known : Type 0 where
  pub condition : Bool
  pub declared : List (Name × Data)

abbrev pub known_of : Members → Known
known_of ms = record { condition = is_condition ms; declared = cond (is_restricted ms) (declared_beside ms) [] }

abbrev pub declared_in : Option (BTreeMap (String Global) Value) → List (Name × Data)
declared_in None = []
declared_in (Some m) = listed (members_view m.entries)

abbrev pub known : Neighbours → Known
known n = known_of (members_view n.members.now.entries)

-- of `if`, `then` and `else`: the keyword stands in the object, and it is known whether `if` is read there
abbrev pub IsKnown : Known → Members → Name → Type 0
IsKnown c ms k = is_conditional_name k ≡ true → (c.condition ≡ is_condition ms) × (is_some (lookup_name k (listed ms)) ≡ true)
