use Rattle.std.proofs.Common.{arith}
use Rattle.olk_tree.proofs.Lists.{next_at, past_end}
use Rattle.olk_check.proofs.Walks.{all_start, all_go_on, all_stop, all_end}
use Rattle.olk_check.proofs.pattern_properties.patterns_accept.Goals as goal

pub loop-entry-init : goal.loop-entry-init
loop-entry-init g c = all_start

pub returns-then-not-matched_accepted : goal.returns-then-not-matched_accepted
returns-then-not-matched_accepted g c = all_stop c.loop-entry.invariant (next_at c.deref-entry-items.ensures.value c.entry-item.is c.loop-entry-test.true) c.if-not-matched_accepted.ensures

pub loop-entry-preserved : goal.loop-entry-preserved
loop-entry-preserved g c = all_go_on c.loop-entry.invariant (next_at c.deref-entry-items.ensures.value c.entry-item.is c.loop-entry-test.true) c.if-not-matched_accepted.ensures

pub returns : goal.returns
returns g c = all_end c.loop-entry.invariant (past_end c.deref-entry-items.ensures.value (omega arith))
