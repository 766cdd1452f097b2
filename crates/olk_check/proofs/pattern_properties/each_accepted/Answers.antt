use Rattle.olk_tree.proofs.Due.{name_next, no_name_next}
use Rattle.olk_check.proofs.Walks.{all_go_on, all_stop, all_end}
use Rattle.olk_check.proofs.pattern_properties.each_accepted.Goals as goal

pub returns-then-not-accepted_if_matched : goal.returns-then-not-accepted_if_matched
returns-then-not-accepted_if_matched g c = all_stop c.loop-name.invariant (name_next c.in-Some.ensures.steps c.as_str.ensures.value) c.if-not-accepted_if_matched.ensures

pub loop-name-preserved : goal.loop-name-preserved
loop-name-preserved g c = all_go_on c.loop-name.invariant (name_next c.in-Some.ensures.steps c.as_str.ensures.value) c.if-not-accepted_if_matched.ensures

pub returns : goal.returns
returns g c = all_end c.loop-name.invariant (no_name_next c.in-None.ensures.steps.0)
