use Rattle.olk_tree.proofs.Due.{name_next, no_name_next}
use Rattle.olk_check.proofs.Walks.{all_go_on, all_stop, all_end}
use Rattle.olk_check.proofs.additional_properties.each_declared_or_rest.Goals as goal

pub returns-then-not-is_accepted : goal.returns-then-not-is_accepted
returns-then-not-is_accepted g c = all_stop c.loop-name.invariant (name_next c.in-Some.ensures.steps c.as_str.ensures.value)
    (rw (← c.node_from-next.ensures) c.if-not-is_accepted.ensures)

pub loop-name-preserved : goal.loop-name-preserved
loop-name-preserved g c = all_go_on c.loop-name.invariant (name_next c.in-Some.ensures.steps c.as_str.ensures.value)
    (rw (← c.node_from-next.ensures) c.if-not-is_accepted.ensures)

pub returns : goal.returns
returns g c = all_end c.loop-name.invariant (no_name_next c.in-None.ensures.steps.0)
