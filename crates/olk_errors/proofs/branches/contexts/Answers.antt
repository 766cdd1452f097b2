use Rattle.olk_check.proofs.Asked.{only_then}
use Rattle.olk_tree.proofs.Lists.{next_at, past_end}
use Rattle.olk_errors.proofs.Contexts.{branching_more, branching_end}
use Rattle.olk_errors.proofs.branches.contexts.Goals as goal

pub loop-n-preserved : goal.loop-n-preserved
loop-n-preserved g c =
    branching_more c.loop-n.invariant c.in_ok-errors.errors (next_at c.deref-n-items.ensures.value c.n-item.is c.loop-n-test.true) c.in_ok-errors.ensures.errors c.in_ok-push.ensures.items c.errors_of.ensures.context

pub returns-in_err-errors-clause-context : goal.returns-in_err-errors-clause-context
returns-in_err-errors-clause-context g c = only_then c.loop-n.invariant.only c.errors_of.ensures.context

pub returns-in_err-push-clause-context : goal.returns-in_err-push-clause-context
returns-in_err-push-clause-context g c = only_then c.loop-n.invariant.only c.errors_of.ensures.context

pub returns-clause-contexts : goal.returns-clause-contexts
returns-clause-contexts g c = branching_end c.loop-n.invariant (past_end c.deref-n-items.ensures.value c.loop-n-test.false)
