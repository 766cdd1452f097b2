-- Which faults a schema finds in a value.
use Rattle.std.specs.Prelude.{Bool, true, false, not, ◌&&◌, ◌||◌, ◌==◌, nat_lt, List, [], ◌∷◌, ◌++◌, map, codes}
use Rattle.std.specs.List.{flat_map, list_any}
use Rattle.serde_json.specs.Data.{Data, string}
use Rattle.olk_spec.specs.Names.{Name, Path, ◌//◌, down, put_if, is_empty}
use Rattle.olk_spec.specs.World.{World}
use Rattle.olk_spec.specs.Vocabulary.{Keyword, additional_properties, property_names, required, dependent_required, dependencies, any_of, one_of, not_keyword, leaf, keyword_named}
use Rattle.olk_spec.specs.Schemas.{Schema, truth, keywords, no_schema, Keywords, Part, is_object, is_truth, members, is_present, names, branches}
use Rattle.olk_spec.specs.Meanings.{Meaning, holds, applied, additional}
use Rattle.olk_spec.specs.Accepts.{missing, due, accepting}
use Rattle.olk_spec.specs.Faults.{Fault, fault, Kind, AdditionalProperties, AnyOf, OneOfNotValid, OneOfMultipleValid, Not, Required, FalseSchema, PropertyNames, Leaf, Context, context}

-- one fault where the test holds
abbrev pub fault_if : Bool → Kind → Data → Path → Path → List Fault
fault_if b k v P Q = put_if b (fault k v Q P) []

-- one for each name of a list that is absent
abbrev pub required_faults : List Name → Data → Path → Path → List Fault
required_faults ns v P Q = map (λ n. fault (Required n) v Q P) (missing ns v)

-- members stand where none is allowed: told by name, or, where the keyword stands alone, as a false schema over the first
abbrev pub unexpected_faults : Bool → List (Name × Data) → Data → Path → Path → List Fault
unexpected_faults named [] v P Q = []
unexpected_faults true (m ∷ ms) v P Q = fault (AdditionalProperties (map (λ e. e.0) (m ∷ ms))) v Q P ∷ []
unexpected_faults false (m ∷ ms) v P Q = fault FalseSchema m.1 Q P ∷ []

-- a fault of a member's name, told of the object
abbrev pub wrapped : Data → Path → Fault → Fault
wrapped v Q (fault k n R P) = fault (PropertyNames (fault k n R P)) v Q P

-- for each branch what it finds, at the keyword's path P
abbrev pub branch_faults : Part Meaning → Data → Path → Path → Context
branch_faults p v P Q = context (map (λ b. b.1.answer.report v (P // b.0) Q) (branches p))

-- the names that `additionalProperties` finds unexpected are told by name where it has a neighbour
abbrev pub has_neighbour : {X : Type 0} → Keywords X → Bool
has_neighbour S = is_present S (codes "properties") || is_present S (codes "patternProperties")

module _ (W : World) (u : Bool) (S : Keywords Meaning) (k : Name) (p : Part Meaning) (v : Data) (P Q : Path) where
  -- the faults of a keyword itself, one row for each; P is the path of the schema object
  abbrev pub own : Keyword → List Fault
  own additional_properties = flat_map (λ s. unexpected_faults (has_neighbour S) (additional S W u v) v (P // k) Q) (put_if (is_truth false p.whole.schema) p.whole [])
  own property_names =
      flat_map (λ s. flat_map (λ m. map (wrapped v Q) (s.answer.report (string m.0) (P // k) Q)) (members v)) (put_if (is_object p.whole.schema) p.whole [])
      ++ fault_if (is_truth false p.whole.schema && not (is_empty (members v))) FalseSchema v (P // k) Q
  own required = required_faults (names p) v (P // k) Q
  own dependent_required = flat_map (λ e. required_faults e.1 v (P // k) Q) (due p v)
  own dependencies = flat_map (λ e. required_faults e.1 v (P // k) Q) (due p v)
  own any_of = fault_if (not (list_any (λ s. holds s v) p.items)) (AnyOf (branch_faults p v (P // k) Q)) v (P // k) Q
  own one_of =
      fault_if (accepting p v == 0) (OneOfNotValid (branch_faults p v (P // k) Q)) v (P // k) Q
      ++ fault_if (nat_lt 1 (accepting p v)) (OneOfMultipleValid (branch_faults p v (P // k) Q)) v (P // k) Q
  own not_keyword = fault_if (holds p.whole v) (Not p.whole.schema) v (P // k) Q
  own leaf = map (λ t. fault (Leaf k t) v Q (P // k)) (W.faults k p.whole.schema v)
  own _ = []

  -- those, and what the subschemas find that it asks
  abbrev pub keyword_report : Keyword → List Fault
  keyword_report w = flat_map (λ a. a.sub.answer.report a.value (down P a.in_schema) (down Q a.in_instance)) (applied W u S k p v w) ++ own w

-- the faults of a schema object are those of its keywords
abbrev pub report_step : World → Bool → Schema Meaning → Data → Path → Path → List Fault
report_step W u (truth b) v P Q = fault_if (not b) FalseSchema v P Q
report_step W u (no_schema d) v P Q = []
report_step W u (keywords S) v P Q = flat_map (λ m. keyword_report W u S m.0 m.1 v P Q (keyword_named W m.0)) S

-- what `validate` keeps of a fault
abbrev mutual
  pub cut_kind : Kind → Kind
  cut_kind (AdditionalProperties (n ∷ ns)) = AdditionalProperties (n ∷ [])
  cut_kind (PropertyNames f) = PropertyNames (cut f)
  cut_kind k = k

  pub cut : Fault → Fault
  cut (fault k v Q P) = fault (cut_kind k) v Q P
