-- Which validator is made of a part.
use Rattle.std.specs.Prelude.{◌≡◌, ◌||◌, ⊤, Bool, true, false, List, [], map, zip, length, Option, Some, None, is_some, option_map}
use Rattle.std.proofs.Common.{◌⊎◌}
use Rattle.olk_spec.specs.Names.{Name, Path}
use Rattle.olk_spec.specs.Schemas.{members}
use Rattle.olk_spec.specs.Vocabulary.{Keyword, properties, pattern_properties, additional_properties, required, dependent_required, dependent_schemas, dependencies, property_names}
use Rattle.olk_spec.specs.Vocabulary.{property_dependencies, all_of, any_of, one_of, not_keyword, if_keyword, then_keyword, else_keyword, leaf, unread}
use Rattle.olk_base.specs.Kit.{Kit}
use Rattle.olk_meaning.specs.Plans.{Planned}
use Rattle.olk_build.specs.Reading.{reads_of, IsShape}
use Rattle.olk_build.specs.declared.shape.Shape.{Shape}
use Rattle.olk_build.specs.Forms.{IsFormOfAllOf, IsFormOfAnyOf, IsFormOfOneOf, IsNot, IsRequiredOver, IsIf, IsProperties, IsPatternProperties, IsAdditionalProperties, IsDependencies}
use Rattle.olk_build.specs.Forms.{IsDependentRequired, IsDependentSchemas, IsPropertyNames, IsPropertyNamesFalse, IsPropertyDependencies}
use Rattle.serde_json.specs.{Data.Data, View.view}
use Rattle.olk_tree.specs.{Answers.Answers, declared.node.KeywordOver.KeywordOver}
use Rattle.olk_build.specs.{Standing.StandAt, declared.part.TakenNeighbours.TakenNeighbours}
use Rattle.olk_build.specs.declared.shape.Shape.TheVariants as shape
use Rattle.olk_tree.specs.declared.node.KeywordOver.TheVariants as keyword
use Rattle.olk_tree.specs.Steps.{StepsOf}

-- the keyword of a shape
abbrev pub which_of : {K R : Type 0} → Shape K R → Keyword
which_of (shape.Properties n) = properties
which_of (shape.PatternProperties v) = pattern_properties
which_of shape.AdditionalProperties = additional_properties
which_of shape.NoOthers = additional_properties
which_of shape.AnyOthers = additional_properties
which_of (shape.Required v) = required
which_of (shape.DependentRequired n v) = dependent_required
which_of (shape.DependentSchemas n) = dependent_schemas
which_of (shape.Dependencies n v) = dependencies
which_of (shape.PropertyDependencies n v) = property_dependencies
which_of shape.PropertyNames = property_names
which_of shape.NoNames = property_names
which_of shape.AnyNames = property_names
which_of shape.AllOf = all_of
which_of shape.AnyOf = any_of
which_of shape.OneOf = one_of
which_of (shape.Not v) = not_keyword
which_of shape.If = if_keyword
which_of shape.Then = then_keyword
which_of shape.Else = else_keyword
which_of shape.Unpaired = unread
which_of (shape.Leaf l) = leaf
which_of shape.Unread = unread

module _ {K R N : Type 0} {o : Kit K R} (I : StepsOf o) (answers : N → Answers) where
  -- a keyword that is made of a shape and nodes at L is of this kind and has the keys of each value whose part these are
  abbrev pub MakesDependencies : Shape K R → Path → List N → (Path → List Name → KeywordOver K R N → Type 0) → KeywordOver K R N → Type 0
  MakesDependencies x L ns Is k = (m : Name × Data) → IsShape o m.0 m.1 x → StandAt I answers (reads_of x) ns m.1 L → Is L (map (λ e. e.0) (members m.1)) k

  -- and the texts at each
  abbrev pub MakesPropertyDependencies : Shape K R → Path → List N → KeywordOver K R N → Type 0
  MakesPropertyDependencies x L ns k = (m : Name × Data) → IsShape o m.0 m.1 x → StandAt I answers (reads_of x) ns m.1 L
      → IsPropertyDependencies L (map (λ e. e.0) (members m.1)) (map (λ e. map (λ c. c.0) (members e.1)) (members m.1)) k

  module _ (L : Path) (ns : List N) (t : TakenNeighbours R N) (P : Path) (p : Planned) where
    -- `additionalProperties` over what was taken
    abbrev pub MakesOthers : Bool → KeywordOver K R N → Type 0
    MakesOthers rest k = IsAdditionalProperties P L rest (option_map (λ m. length m.names) t.beside.properties) (option_map (λ x. length x.patterns.items) t.beside.patterns) p.fused_one k

    -- the validator that is made of a shape and nodes at L in the object at P with this plan, and of what was taken
    abbrev pub MakesForm : Shape K R → KeywordOver K R N → Type 0
    MakesForm (shape.Properties n) k = IsProperties P L (length n) p.fused_pair k
    MakesForm (shape.PatternProperties v) k = IsPatternProperties L (length (zip v.items ns)) k
    MakesForm shape.AdditionalProperties k = MakesOthers true k
    MakesForm shape.NoOthers k = MakesOthers false k
    MakesForm shape.PropertyNames k = IsPropertyNames L k
    MakesForm shape.NoNames k = IsPropertyNamesFalse L k
    MakesForm (shape.Required v) k = ((is_some p.fused_pair || is_some p.fused_one) ≡ false) × IsRequiredOver v L k
    MakesForm (shape.DependentRequired n v) k = MakesDependencies (shape.DependentRequired n v) L [] IsDependentRequired k
    MakesForm (shape.DependentSchemas n) k = MakesDependencies (shape.DependentSchemas n) L ns IsDependentSchemas k
    MakesForm (shape.Dependencies n v) k = MakesDependencies (shape.Dependencies n v) L ns IsDependencies k
    MakesForm (shape.PropertyDependencies n v) k = MakesPropertyDependencies (shape.PropertyDependencies n v) L ns k
    MakesForm shape.AllOf k = IsFormOfAllOf L ns k
    MakesForm shape.AnyOf k = IsFormOfAnyOf L ns k
    MakesForm shape.OneOf k = IsFormOfOneOf L ns k
    MakesForm (shape.Not v) k = IsNot L (view v) k
    MakesForm shape.If k = IsIf L (is_some t.cases.then_schema) (is_some t.cases.else_schema) k
    MakesForm (shape.Leaf l) k = k ≡ keyword.Leaf L l
    MakesForm x k = ⊥

    -- when none is made
    abbrev pub MakesNone : Shape K R → Type 0
    MakesNone shape.AdditionalProperties = ns ≡ []
    MakesNone shape.PropertyNames = ns ≡ []
    MakesNone (shape.Required v) = (is_some p.fused_pair || is_some p.fused_one) ≡ true
    MakesNone (shape.Not v) = ns ≡ []
    MakesNone shape.If = (ns ≡ []) ⊎ ((t.cases.then_schema ≡ None) × (t.cases.else_schema ≡ None))
    MakesNone shape.AnyOthers = ⊤
    MakesNone shape.AnyNames = ⊤
    MakesNone shape.Then = ⊤
    MakesNone shape.Else = ⊤
    MakesNone shape.Unpaired = ⊤
    MakesNone shape.Unread = ⊤
    MakesNone x = ⊥

    abbrev pub MakesValidator : Shape K R → Option (KeywordOver K R N) → Type 0
    MakesValidator x None = MakesNone x
    MakesValidator x (Some k) = MakesForm x k

  -- what is made of a part of this shape
  abbrev pub IsMade : Shape K R → Path → List N → TakenNeighbours R N → Path → Planned → Option (KeywordOver K R N) → Type 0
  IsMade x L ns t P p r = MakesValidator L ns t P p x r
