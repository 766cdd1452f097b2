use Rattle.std.proofs.Common.{sym}
use Rattle.olk_base.specs.Nodes.{subject_data}
use Rattle.olk_tree.specs.Validators.{answers_of}
use Rattle.olk_evaluate.proofs.OwnErrors.{leaf_shown}
use Rattle.olk_evaluate.proofs.Shows.{kept_same, shows_by}
use Rattle.olk_evaluate.proofs.node.KeywordOverShow.show.Goals as goal

pub returns-in-Leaf : goal.returns-in-Leaf
unfolding answers_of
returns-in-Leaf g c = rw c.in-Leaf.is (shows_by c.show_leaf.ensures kept_same (λ u so _ texts.
    leaf_shown (g.K.Leaf.keyword_of c.in-Leaf.leaf) c.in-Leaf.field-0 c.args.ctx.now.path (subject_data c.args.node) (g.K.Leaf.finds c.in-Leaf.leaf (subject_data c.args.node)) texts))

pub returns-in-AdditionalProperties : goal.returns-in-AdditionalProperties
unfolding answers_of
returns-in-AdditionalProperties g c = rw c.in-AdditionalProperties.is c.show-in-AdditionalProperties.ensures

pub returns-in-SmallProperties : goal.returns-in-SmallProperties
unfolding answers_of
returns-in-SmallProperties g c = rw c.in-SmallProperties.is c.show.ensures

pub returns-in-BigProperties : goal.returns-in-BigProperties
unfolding answers_of
returns-in-BigProperties g c = rw c.in-BigProperties.is c.show-in-BigProperties.ensures

pub returns-in-PropertiesWithRequired2 : goal.returns-in-PropertiesWithRequired2
unfolding answers_of
returns-in-PropertiesWithRequired2 g c = rw c.in-PropertiesWithRequired2.is (rw (sym c.deref.ensures) c.show-in-PropertiesWithRequired2.ensures)

pub returns-in-Required : goal.returns-in-Required
unfolding answers_of
returns-in-Required g c = rw c.in-Required.is c.show-in-Required.ensures

pub returns-in-AllOf : goal.returns-in-AllOf
unfolding answers_of
returns-in-AllOf g c = rw c.in-AllOf.is c.show-in-AllOf.ensures

pub returns-in-SingleValueAllOf : goal.returns-in-SingleValueAllOf
unfolding answers_of
returns-in-SingleValueAllOf g c = rw c.in-SingleValueAllOf.is c.show-in-SingleValueAllOf.ensures

pub returns-in-AnyOf : goal.returns-in-AnyOf
unfolding answers_of
returns-in-AnyOf g c = rw c.in-AnyOf.is c.show-in-AnyOf.ensures

pub returns-in-SingleAnyOf : goal.returns-in-SingleAnyOf
unfolding answers_of
returns-in-SingleAnyOf g c = rw c.in-SingleAnyOf.is c.show-in-SingleAnyOf.ensures

pub returns-in-OneOf : goal.returns-in-OneOf
unfolding answers_of
returns-in-OneOf g c = rw c.in-OneOf.is c.show-in-OneOf.ensures

pub returns-in-SingleOneOf : goal.returns-in-SingleOneOf
unfolding answers_of
returns-in-SingleOneOf g c = rw c.in-SingleOneOf.is c.show-in-SingleOneOf.ensures

pub returns-in-Not : goal.returns-in-Not
unfolding answers_of
returns-in-Not g c = rw c.in-Not.is c.show-in-Not.ensures

pub returns-in-IfThen : goal.returns-in-IfThen
unfolding answers_of
returns-in-IfThen g c = rw c.in-IfThen.is (rw (sym c.deref-in-IfThen.ensures) c.show-in-IfThen.ensures)

pub returns-in-IfElse : goal.returns-in-IfElse
unfolding answers_of
returns-in-IfElse g c = rw c.in-IfElse.is (rw (sym c.deref-in-IfElse.ensures) c.show-in-IfElse.ensures)

pub returns-in-IfThenElse : goal.returns-in-IfThenElse
unfolding answers_of
returns-in-IfThenElse g c = rw c.in-IfThenElse.is (rw (sym c.deref-in-IfThenElse.ensures) c.show-in-IfThenElse.ensures)

pub returns-in-Dependencies : goal.returns-in-Dependencies
unfolding answers_of
returns-in-Dependencies g c = rw c.in-Dependencies.is c.show-in-Dependencies.ensures

pub returns-in-DependentRequired : goal.returns-in-DependentRequired
unfolding answers_of
returns-in-DependentRequired g c = rw c.in-DependentRequired.is c.show-in-DependentRequired.ensures

pub returns-in-DependentSchemas : goal.returns-in-DependentSchemas
unfolding answers_of
returns-in-DependentSchemas g c = rw c.in-DependentSchemas.is c.show-in-DependentSchemas.ensures

pub returns-in-PropertyNames : goal.returns-in-PropertyNames
unfolding answers_of
returns-in-PropertyNames g c = rw c.in-PropertyNames.is c.show-in-PropertyNames.ensures

pub returns-in-PropertyNamesFalse : goal.returns-in-PropertyNamesFalse
unfolding answers_of
returns-in-PropertyNamesFalse g c = rw c.in-PropertyNamesFalse.is c.show-in-PropertyNamesFalse.ensures

pub returns-in-PropertyDependencies : goal.returns-in-PropertyDependencies
unfolding answers_of
returns-in-PropertyDependencies g c = rw c.in-PropertyDependencies.is c.show-in-PropertyDependencies.ensures

pub returns-in-PatternProperties : goal.returns-in-PatternProperties
unfolding answers_of
returns-in-PatternProperties g c = rw c.in-PatternProperties.is c.show-in-PatternProperties.ensures

pub returns-in-SingleValuePatternProperties : goal.returns-in-SingleValuePatternProperties
unfolding answers_of
returns-in-SingleValuePatternProperties g c = rw c.in-SingleValuePatternProperties.is (rw (sym c.deref-in-SingleValuePatternProperties.ensures) c.show-in-SingleValuePatternProperties.ensures)
