use Rattle.std.proofs.Common.{arith, refl}
use Rattle.olk_tree.proofs.Lists.{next_at, past_end}
use Rattle.olk_check.proofs.Walks.{all_go_on, all_stop, all_end}
use Rattle.olk_documents.proofs.arrays.each_accepted.Goals as goal

pub returns-then-not-check : goal.returns-then-not-check
returns-then-not-check g c = all_stop c.loop-i.invariant (next_at {xs = c.args.items.now.items} {i = c.loop-i.i} refl c.index.ensures (omega arith)) c.if-not-check.ensures

pub loop-i-preserved : goal.loop-i-preserved
loop-i-preserved g c = all_go_on c.loop-i.invariant (next_at {xs = c.args.items.now.items} {i = c.loop-i.i} refl c.index.ensures (omega arith)) c.if-not-check.ensures

pub returns : goal.returns
returns g c = all_end c.loop-i.invariant (past_end {xs = c.args.items.now.items} {i = c.loop-i.i} refl (omega arith))
