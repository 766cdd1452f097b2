use Rattle.std.proofs.Common.{refl, arith}
use Rattle.olk_tree.proofs.Lists.{next_at, past_end}
use Rattle.olk_check.proofs.Walks.{all_go_on, all_stop, all_end}
use Rattle.olk_check.proofs.additional_properties.held_accept.Goals as goal

pub returns-then-not-one_held_accepts : goal.returns-then-not-one_held_accepts
returns-then-not-one_held_accepts g c = all_stop c.loop-entry.invariant (next_at refl c.entry-item.is c.loop-entry-test.true) c.if-not-one_held_accepts.ensures

pub loop-entry-preserved : goal.loop-entry-preserved
loop-entry-preserved g c = all_go_on c.loop-entry.invariant (next_at refl c.entry-item.is c.loop-entry-test.true) c.if-not-one_held_accepts.ensures

pub returns : goal.returns
returns g c = all_end c.loop-entry.invariant (past_end {xs = c.args.held.now} {i = c.loop-entry.entry-index} refl (omega arith))
