-- What each validator answers over what its nodes answer.
use Rattle.std.specs.Prelude.{Bool, List}
use Rattle.serde_json.specs.Data.{Data}
use Rattle.olk_spec.specs.Names.{Path}
use Rattle.olk_spec.specs.Faults.{Fault}
use Rattle.olk_spec.specs.Tree.{Tree}
use Rattle.olk_meaning.specs.Chosen.{Placed}
use Rattle.olk_base.specs.Kit.{Kit}
use Rattle.olk_tree.specs.AdditionalProperties.{additional_properties_answers}
use Rattle.olk_tree.specs.AllOf.{all_of_answers, single_all_of_answers}
use Rattle.olk_tree.specs.Answers.{AnswersOver, Meanings, Findings, Showings, alone}
use Rattle.olk_tree.specs.AnyOf.{any_of_answers, single_any_of_answers}
use Rattle.olk_tree.specs.Dependencies.{dependencies_answers, dependent_required_answers, dependent_schemas_answers}
use Rattle.olk_tree.specs.Holdings.{held}
use Rattle.olk_tree.specs.If.{if_then_answers, if_else_answers, if_then_else_answers}
use Rattle.olk_tree.specs.Leaf.{leaf_answers}
use Rattle.olk_tree.specs.Not.{not_answers}
use Rattle.olk_tree.specs.OneOf.{one_of_answers, single_one_of_answers}
use Rattle.olk_tree.specs.PatternProperties.{pattern_properties_answers, single_pattern_properties_answers}
use Rattle.olk_tree.specs.Properties.{small_properties_answers, big_properties_answers, properties_with_required2_answers}
use Rattle.olk_tree.specs.PropertyDependencies.{property_dependencies_answers}
use Rattle.olk_tree.specs.PropertyNames.{property_names_answers, property_names_false_answers}
use Rattle.olk_tree.specs.Questions.{Question}
use Rattle.olk_tree.specs.Required.{required_answers}
use Rattle.olk_tree.specs.declared.node.KeywordOver.{KeywordOver}
use Rattle.olk_tree.specs.declared.node.KeywordOver.TheVariants as keyword

module _ {K R N : Type 0} (o : Kit K R) where
  unfoldable pub answers_of : KeywordOver K R N → AnswersOver N
  answers_of (keyword.SmallProperties k) = small_properties_answers k
  answers_of (keyword.BigProperties k) = big_properties_answers k
  answers_of (keyword.PropertiesWithRequired2 k) = properties_with_required2_answers k.value
  answers_of (keyword.Required k) = alone (required_answers k)
  answers_of (keyword.AllOf k) = all_of_answers k
  answers_of (keyword.SingleValueAllOf k) = single_all_of_answers k
  answers_of (keyword.AnyOf k) = any_of_answers k
  answers_of (keyword.SingleAnyOf k) = single_any_of_answers k
  answers_of (keyword.OneOf k) = one_of_answers k
  answers_of (keyword.SingleOneOf k) = single_one_of_answers k
  answers_of (keyword.Not k) = not_answers k
  answers_of (keyword.IfThen k) = if_then_answers k.value
  answers_of (keyword.IfElse k) = if_else_answers k.value
  answers_of (keyword.IfThenElse k) = if_then_else_answers k.value
  answers_of (keyword.Dependencies k) = dependencies_answers k
  answers_of (keyword.DependentRequired k) = dependent_required_answers k
  answers_of (keyword.DependentSchemas k) = dependent_schemas_answers k
  answers_of (keyword.PropertyNames k) = property_names_answers k
  answers_of (keyword.PropertyNamesFalse k) = alone (property_names_false_answers k)
  answers_of (keyword.PropertyDependencies k) = property_dependencies_answers k
  answers_of (keyword.PatternProperties k) = pattern_properties_answers o.answers o.costs k
  answers_of (keyword.SingleValuePatternProperties k) = single_pattern_properties_answers o.answers o.costs k.value
  answers_of (keyword.AdditionalProperties k) = additional_properties_answers o.answers o.costs (held k)
  answers_of (keyword.Leaf P l) = alone (leaf_answers o P l)

  abbrev pub validator_means : Meanings N → KeywordOver K R N → Data → Question
  validator_means m k = (answers_of k).means m

  abbrev pub validator_report : Meanings N → Findings N → Bool → KeywordOver K R N → Data → Path → List Fault
  validator_report m r u k = (answers_of k).report m r u

  abbrev pub validator_first : Meanings N → Findings N → Bool → Findings N → KeywordOver K R N → Data → Path → List Fault
  validator_first m r u s k = (answers_of k).first m r s u

  abbrev pub validator_tree : Meanings N → Showings N → Bool → KeywordOver K R N → Data → Path → Tree
  validator_tree m t u k = (answers_of k).tree m t u

  abbrev pub validator_formed : (N → Bool) → KeywordOver K R N → Bool
  validator_formed f k = (answers_of k).formed f

  abbrev pub validator_forms : (N → List Placed) → KeywordOver K R N → List Placed
  validator_forms f k = (answers_of k).forms f
