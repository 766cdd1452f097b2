use Rattle.std.proofs.Common.{arith}
use Rattle.olk_tree.proofs.Lists.{next_at, past_end}
use Rattle.olk_check.proofs.Walks.{all_go_on, all_stop, all_end}
use Rattle.olk_documents.proofs.valid.all_accept.Goals as goal

pub returns-then-not-check : goal.returns-then-not-check
returns-then-not-check g c = all_stop c.loop-n.invariant (next_at c.deref-n-items.ensures.value c.n-item.is c.loop-n-test.true) c.if-not-check.ensures

pub loop-n-preserved : goal.loop-n-preserved
loop-n-preserved g c = all_go_on c.loop-n.invariant (next_at c.deref-n-items.ensures.value c.n-item.is c.loop-n-test.true) c.if-not-check.ensures

pub returns : goal.returns
returns g c = all_end c.loop-n.invariant (past_end c.deref-n-items.ensures.value (omega arith))
