-- Whose validator stands for each keyword of a schema object.
use Rattle.std.specs.Prelude.{cond, ◌&&◌, ◌||◌, Bool, List, [], ◌∷◌, Option, codes, bytes_eq, is_some, option_map}
use Rattle.serde_json.specs.Data.{Data, Members}
use Rattle.olk_spec.specs.Names.{Name, filter_once, is_among}
use Rattle.olk_meaning.specs.Fused.{fused_pair, fused_one}
use Rattle.olk_meaning.specs.Conditions.{is_condition, is_restricted}
use Rattle.olk_meaning.specs.declared.plan.Plan.{Plan}

-- what is decided once for an object: the two names that `properties` fuses from `required`, whether `if` is read, whether other members are restricted, and the name that `additionalProperties` fuses
pub record Planned : Type 0 where
  pub fused_pair : Option (Name × Name)
  pub condition : Bool
  pub restricted : Bool
  pub fused_one : Option Name

abbrev pub plan_of : Members → Planned
plan_of ms = record { fused_pair = fused_pair ms; condition = is_condition ms; restricted = is_restricted ms; fused_one = fused_one ms }

abbrev pub planned : Plan → Planned
planned p = record { fused_pair = option_map (λ t. (t.0.now, t.1.now)) p.fused_pair; condition = p.condition; restricted = p.restricted; fused_one = option_map (λ t. t.now) p.fused_one }

-- what `if` stands for where it is read
abbrev pub is_case : Name → Bool
is_case k = is_among k (codes "then" ∷ codes "else" ∷ [])

-- the keywords that tell members by their names
abbrev pub tells_members : Name → Bool
tells_members k = is_among k (codes "properties" ∷ codes "patternProperties" ∷ [])

-- what `additionalProperties` stands for
abbrev pub is_taken_over : Planned → Name → Bool
is_taken_over p k = (p.restricted && tells_members k) || (is_some p.fused_one && bytes_eq (codes "required") k)

-- the keyword whose validator stands for the keyword of the name k
abbrev pub head : Planned → Name → Name
head p k = cond (is_taken_over p k) (codes "additionalProperties") (cond (is_some p.fused_pair && bytes_eq (codes "required") k) (codes "properties") (cond (p.condition && is_case k) (codes "if") k))

-- the members for which the validator of the member m stands: those whose head it is
abbrev pub claims : (Name → Name) → List (Name × Data) → Name × Data → List (Name × Data)
claims heads es m = filter_once (λ x. bytes_eq m.0 (heads x.0)) es
