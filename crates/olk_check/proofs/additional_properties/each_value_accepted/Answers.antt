use Rattle.std.proofs.Common.{refl}
use Rattle.olk_tree.proofs.Due.{name_next, no_name_next}
use Rattle.olk_check.proofs.Walks.{all_go_on, all_stop, all_end}
use Rattle.olk_check.proofs.additional_properties.each_value_accepted.Goals as goal

pub returns-then-not-check : goal.returns-then-not-check
returns-then-not-check g c = all_stop c.loop-value.invariant (name_next c.in-Some.ensures.steps refl) c.if-not-check.ensures

pub loop-value-preserved : goal.loop-value-preserved
loop-value-preserved g c = all_go_on c.loop-value.invariant (name_next c.in-Some.ensures.steps refl) c.if-not-check.ensures

pub returns : goal.returns
returns g c = all_end c.loop-value.invariant (no_name_next c.in-None.ensures.steps.0)
