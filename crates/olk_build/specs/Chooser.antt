-- Which validator stands for a member of a schema object, by its name, its value and its neighbours.
use Rattle.std.specs.Prelude.{◌≡◌, ◌||◌, ℕ, Bool, true, false, not, List, map, length, codes, Option, Some, None, is_some, option_map}
use Rattle.std.specs.List.{AllZip}
use Rattle.serde_json.specs.Data.{Data, Members}
use Rattle.olk_spec.specs.Names.{Name, Path, ◌//◌, lookup_name, filter_once}
use Rattle.olk_spec.specs.Schemas.{listed, members, is_object, is_truth}
use Rattle.olk_spec.specs.Vocabulary.{Keyword, properties, pattern_properties, additional_properties, required, dependent_required, dependent_schemas, dependencies, property_names}
use Rattle.olk_spec.specs.Vocabulary.{property_dependencies, all_of, any_of, one_of, not_keyword, if_keyword, then_keyword, else_keyword, leaf, unread}
use Rattle.olk_meaning.specs.Conditions.{is_condition, is_restricted}
use Rattle.olk_meaning.specs.Plans.{plan_of}
use Rattle.olk_tree.specs.declared.node.KeywordOver.{KeywordOver}
use Rattle.olk_build.specs.Forms.{IsAllOf, IsAnyOf, IsOneOf, IsNot, IsRequired, IsIf, IsProperties, IsPatternProperties, IsAdditionalProperties, IsDependencies, IsDependentRequired, IsDependentSchemas}
use Rattle.olk_build.specs.Forms.{IsPropertyNames, IsPropertyNamesFalse, IsPropertyDependencies}
use Rattle.olk_tree.specs.declared.node.KeywordOver.TheVariants as keyword

abbrev pub IsLeafAt : {K R N : Type 0} → Path → KeywordOver K R N → Type 0
IsLeafAt L (keyword.Leaf M l) = M ≡ L
IsLeafAt L k = ⊥

-- how many entries stand at the name k, if it is there
abbrev pub entries_at : Name → Members → Option ℕ
entries_at k ms = option_map (λ d. length (members d)) (lookup_name k (listed ms))

-- in a schema object with the members ms
module _ (ms : Members) where
  -- the member with the value d has no validator of its own: it is not read, or another member's stands for it
  abbrev pub has_no_validator : Keyword → Data → Bool
  has_no_validator properties d = is_restricted ms
  has_no_validator pattern_properties d = is_restricted ms
  has_no_validator additional_properties d = is_truth true d
  has_no_validator property_names d = not (is_object d || is_truth false d)
  has_no_validator required d = is_some (plan_of ms).fused_pair || is_some (plan_of ms).fused_one
  has_no_validator if_keyword d = not (is_condition ms)
  has_no_validator then_keyword d = true
  has_no_validator else_keyword d = true
  has_no_validator unread d = true
  has_no_validator w d = false

  -- at P
  module _ {K R N : Type 0} (P : Path) where
    -- the validator of the member of the name k and the value d
    abbrev pub HasForm : Keyword → Name → Data → KeywordOver K R N → Type 0
    HasForm properties k d x = IsProperties P (P // k) (length (members d)) (plan_of ms).fused_pair x
    HasForm pattern_properties k d x = IsPatternProperties (P // k) (length (members d)) x
    HasForm additional_properties k d x = IsAdditionalProperties P (P // k) (is_object d) (entries_at (codes "properties") ms) (entries_at (codes "patternProperties") ms) (plan_of ms).fused_one x
    HasForm property_names k d x = (is_object d ≡ true → IsPropertyNames (P // k) x) × (is_truth false d ≡ true → IsPropertyNamesFalse (P // k) x)
    HasForm required k d x = IsRequired (P // k) d x
    HasForm dependent_required k d x = IsDependentRequired (P // k) (map (λ e. e.0) (members d)) x
    HasForm dependent_schemas k d x = IsDependentSchemas (P // k) (map (λ e. e.0) (members d)) x
    HasForm dependencies k d x = IsDependencies (P // k) (map (λ e. e.0) (members d)) x
    HasForm property_dependencies k d x = IsPropertyDependencies (P // k) (map (λ e. e.0) (members d)) (map (λ e. map (λ c. c.0) (members e.1)) (members d)) x
    HasForm all_of k d x = IsAllOf (P // k) d x
    HasForm any_of k d x = IsAnyOf (P // k) d x
    HasForm one_of k d x = IsOneOf (P // k) d x
    HasForm not_keyword k d x = IsNot (P // k) d x
    HasForm if_keyword k d x = IsIf (P // k) (is_some (lookup_name (codes "then") (listed ms))) (is_some (lookup_name (codes "else") (listed ms))) x
    HasForm leaf k d x = IsLeafAt (P // k) x
    HasForm w k d x = ⊥

    -- it is that, or none
    abbrev pub IsChosen : Keyword → Name × Data → Option (KeywordOver K R N) → Type 0
    IsChosen w m None = has_no_validator w m.1 ≡ true
    IsChosen w m (Some x) = (has_no_validator w m.1 ≡ false) × HasForm w m.0 m.1 x

    -- for each of these members its validator
    abbrev pub HaveForms : (Name → Keyword) → List (Name × Data) → List (KeywordOver K R N) → Type 0
    HaveForms named es ks = AllZip (λ m x. HasForm (named m.0) m.0 m.1 x) es ks

    -- the validators of these members, in their order
    abbrev pub AreChosen : (Name → Keyword) → List (Name × Data) → List (KeywordOver K R N) → Type 0
    AreChosen named es ks = HaveForms named (filter_once (λ m. not (has_no_validator (named m.0) m.1)) es) ks
