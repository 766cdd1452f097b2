use Rattle.std.proofs.Common.{sym}
use Rattle.olk_tree.specs.Validators.{answers_of}
use Rattle.olk_check.proofs.Asked.{only_same}
use Rattle.olk_errors.proofs.Sinks.{walks_alone}
use Rattle.olk_errors.proofs.keyword.walk_validator.Goals as goal

pub returns-in-SmallProperties : goal.returns-in-SmallProperties
unfolding answers_of
returns-in-SmallProperties g c = rw c.in-SmallProperties.is c.walk.ensures

pub returns-in-BigProperties : goal.returns-in-BigProperties
unfolding answers_of
returns-in-BigProperties g c = rw c.in-BigProperties.is c.walk-in-BigProperties.ensures

pub returns-in-PropertiesWithRequired2 : goal.returns-in-PropertiesWithRequired2
unfolding answers_of
returns-in-PropertiesWithRequired2 g c = rw c.in-PropertiesWithRequired2.is (rw (sym c.deref.ensures) c.walk-in-PropertiesWithRequired2.ensures)

pub returns-in-Required : goal.returns-in-Required
unfolding answers_of
returns-in-Required g c = rw c.in-Required.is c.walk-in-Required.ensures

pub returns-in-AllOf : goal.returns-in-AllOf
unfolding answers_of
returns-in-AllOf g c = rw c.in-AllOf.is c.walk-in-AllOf.ensures

pub returns-in-SingleValueAllOf : goal.returns-in-SingleValueAllOf
unfolding answers_of
returns-in-SingleValueAllOf g c = rw c.in-SingleValueAllOf.is c.walk-in-SingleValueAllOf.ensures

pub returns-in-AnyOf : goal.returns-in-AnyOf
unfolding answers_of
returns-in-AnyOf g c = rw c.in-AnyOf.is c.walk-in-AnyOf.ensures

pub returns-in-SingleAnyOf : goal.returns-in-SingleAnyOf
unfolding answers_of
returns-in-SingleAnyOf g c = rw c.in-SingleAnyOf.is c.walk-in-SingleAnyOf.ensures

pub returns-in-OneOf : goal.returns-in-OneOf
unfolding answers_of
returns-in-OneOf g c = rw c.in-OneOf.is c.walk-in-OneOf.ensures

pub returns-in-SingleOneOf : goal.returns-in-SingleOneOf
unfolding answers_of
returns-in-SingleOneOf g c = rw c.in-SingleOneOf.is c.walk-in-SingleOneOf.ensures

pub returns-in-Not : goal.returns-in-Not
unfolding answers_of
returns-in-Not g c = rw c.in-Not.is c.walk-in-Not.ensures

pub returns-in-IfThen : goal.returns-in-IfThen
unfolding answers_of
returns-in-IfThen g c = rw c.in-IfThen.is (rw (sym c.deref-in-IfThen.ensures) c.walk-in-IfThen.ensures)

pub returns-in-IfElse : goal.returns-in-IfElse
unfolding answers_of
returns-in-IfElse g c = rw c.in-IfElse.is (rw (sym c.deref-in-IfElse.ensures) c.walk-in-IfElse.ensures)

pub returns-in-IfThenElse : goal.returns-in-IfThenElse
unfolding answers_of
returns-in-IfThenElse g c = rw c.in-IfThenElse.is (rw (sym c.deref-in-IfThenElse.ensures) c.walk-in-IfThenElse.ensures)

pub returns-in-Dependencies : goal.returns-in-Dependencies
unfolding answers_of
returns-in-Dependencies g c = rw c.in-Dependencies.is c.walk-in-Dependencies.ensures

pub returns-in-DependentRequired : goal.returns-in-DependentRequired
unfolding answers_of
returns-in-DependentRequired g c = rw c.in-DependentRequired.is c.walk-in-DependentRequired.ensures

pub returns-in-DependentSchemas : goal.returns-in-DependentSchemas
unfolding answers_of
returns-in-DependentSchemas g c = rw c.in-DependentSchemas.is c.walk-in-DependentSchemas.ensures

pub returns-in-PropertyNames : goal.returns-in-PropertyNames
unfolding answers_of
returns-in-PropertyNames g c = rw c.in-PropertyNames.is c.walk-in-PropertyNames.ensures

pub returns-in-PropertyNamesFalse : goal.returns-in-PropertyNamesFalse
unfolding answers_of
returns-in-PropertyNamesFalse g c = rw c.in-PropertyNamesFalse.is c.walk-in-PropertyNamesFalse.ensures

pub returns-in-PropertyDependencies : goal.returns-in-PropertyDependencies
unfolding answers_of
returns-in-PropertyDependencies g c = rw c.in-PropertyDependencies.is c.walk-in-PropertyDependencies.ensures

pub returns-in-PatternProperties : goal.returns-in-PatternProperties
unfolding answers_of
returns-in-PatternProperties g c = rw c.in-PatternProperties.is c.walk-in-PatternProperties.ensures

pub returns-in-SingleValuePatternProperties : goal.returns-in-SingleValuePatternProperties
unfolding answers_of
returns-in-SingleValuePatternProperties g c = rw c.in-SingleValuePatternProperties.is
    (rw (sym c.deref-in-SingleValuePatternProperties.ensures) c.walk-in-SingleValuePatternProperties.ensures)

pub returns-in-AdditionalProperties : goal.returns-in-AdditionalProperties
unfolding answers_of
returns-in-AdditionalProperties g c = rw c.in-AdditionalProperties.is c.walk-in-AdditionalProperties.ensures

pub returns-in-Leaf : goal.returns-in-Leaf
unfolding answers_of
returns-in-Leaf g c = rw c.in-Leaf.is (walks_alone (only_same c.args.ctx.now) (λ u. c.report_texts.ensures))
