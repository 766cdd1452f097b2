use Rattle.std.proofs.Common.{sym}
use Rattle.olk_tree.specs.Validators.{answers_of}
use Rattle.olk_check.proofs.node.keyword_accepts.Goals as goal

pub returns-in-OneOf : goal.returns-in-OneOf
unfolding answers_of
returns-in-OneOf g c = rw c.in-OneOf.is c.check-in-OneOf.ensures

pub returns-in-AdditionalProperties : goal.returns-in-AdditionalProperties
unfolding answers_of
returns-in-AdditionalProperties g c = rw c.in-AdditionalProperties.is c.check-in-AdditionalProperties.ensures

pub returns-in-IfThen : goal.returns-in-IfThen
unfolding answers_of
returns-in-IfThen g c = rw c.in-IfThen.is (rw (sym c.deref-in-IfThen.ensures) c.check-in-IfThen.ensures)

pub returns-in-IfElse : goal.returns-in-IfElse
unfolding answers_of
returns-in-IfElse g c = rw c.in-IfElse.is (rw (sym c.deref-in-IfElse.ensures) c.check-in-IfElse.ensures)

pub returns-in-IfThenElse : goal.returns-in-IfThenElse
unfolding answers_of
returns-in-IfThenElse g c = rw c.in-IfThenElse.is (rw (sym c.deref-in-IfThenElse.ensures) c.check-in-IfThenElse.ensures)

pub returns-in-PropertiesWithRequired2 : goal.returns-in-PropertiesWithRequired2
unfolding answers_of
returns-in-PropertiesWithRequired2 g c = rw c.in-PropertiesWithRequired2.is (rw (sym c.deref.ensures) c.check-in-PropertiesWithRequired2.ensures)

pub returns-in-SingleValuePatternProperties : goal.returns-in-SingleValuePatternProperties
unfolding answers_of
returns-in-SingleValuePatternProperties g c = rw c.in-SingleValuePatternProperties.is (rw (sym c.deref-in-SingleValuePatternProperties.ensures) c.check-in-SingleValuePatternProperties.ensures)
