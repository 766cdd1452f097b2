use Rattle.olk_tree.proofs.Due.{name_next, no_name_next}
use Rattle.olk_check.proofs.Walks.{all_go_on, all_stop, all_end}
use Rattle.olk_check.proofs.property_names.names_accepted.Goals as goal

pub returns-then-not-check : goal.returns-then-not-check
returns-then-not-check g c = all_stop c.loop-name.invariant (name_next c.in-Some.ensures.steps c.as_str.ensures.value) c.if-not-check.ensures

pub loop-name-preserved : goal.loop-name-preserved
loop-name-preserved g c = all_go_on c.loop-name.invariant (name_next c.in-Some.ensures.steps c.as_str.ensures.value) c.if-not-check.ensures

pub returns : goal.returns
returns g c = all_end c.loop-name.invariant (no_name_next c.in-None.ensures.steps.0)
