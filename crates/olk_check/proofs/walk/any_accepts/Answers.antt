use Rattle.std.proofs.Common.{arith}
use Rattle.olk_tree.proofs.Lists.{next_at, past_end}
use Rattle.olk_check.proofs.Walks.{any_go_on, any_stop, any_end}
use Rattle.olk_check.proofs.walk.any_accepts.Goals as goal

pub returns-then-check : goal.returns-then-check
returns-then-check g c = any_stop c.loop-n.invariant (next_at c.deref-n-items.ensures.value c.n-item.is c.loop-n-test.true) c.if-check.ensures

pub loop-n-preserved : goal.loop-n-preserved
loop-n-preserved g c = any_go_on c.loop-n.invariant (next_at c.deref-n-items.ensures.value c.n-item.is c.loop-n-test.true) c.if-check.ensures

pub returns : goal.returns
returns g c = any_end c.loop-n.invariant (past_end c.deref-n-items.ensures.value (omega arith))
