use Rattle.olk_reports.specs.Evaluations.{tree_of}
use Rattle.olk_reports.proofs.Entries.{own_end}
use Rattle.olk_reports.proofs.entry.push_own_errors.Goals as goal

pub returns : goal.returns
returns c =
    own_end (tree_of c.args.node.now) c.errors-error-items.result.now c.loop-error.error-index _ _ c.loop-error-test.false c.loop-error.invariant c.errors-error-items.ensures
