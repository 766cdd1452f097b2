use Rattle.olk_tree.proofs.Lists.{next_at, past_end}
use Rattle.olk_errors.proofs.Loops.{walking_start, walking_turn, walking_end}
use Rattle.olk_errors.proofs.Sinks.{walks_left}
use Rattle.olk_documents.proofs.errors.walk_each.Goals as goal

pub loop-n-init : goal.loop-n-init
loop-n-init g c = walking_start

pub loop-n-preserved : goal.loop-n-preserved
loop-n-preserved g c = walking_turn c.loop-n.invariant (next_at c.deref-n-items.ensures.value c.n-item.is c.loop-n-test.true) c.in_ok-walk.ensures

pub returns-in_err-walk : goal.returns-in_err-walk
returns-in_err-walk g c = walks_left c.from_residual.ensures.0
    (walking_turn c.loop-n.invariant (next_at c.deref-n-items.ensures.value c.n-item.is c.loop-n-test.true) c.in_err-walk.ensures)

pub returns : goal.returns
returns g c = walking_end c.loop-n.invariant (past_end c.deref-n-items.ensures.value c.loop-n-test.false)
