use Rattle.olk_base.specs.Nodes.{subject_data}
use Rattle.olk_tree.proofs.Due.{none_due}
use Rattle.olk_tree.specs.Maps.{named}
use Rattle.olk_check.proofs.Asked.{only_same}
use Rattle.olk_errors.proofs.Due.{past_none}
use Rattle.olk_errors.proofs.dependencies.walk_dependencies.Goals as goal

pub returns-in-None : goal.returns-in-None
returns-in-None g c = past_none g.N.Means.means g.N.Reports.first g.N.Reports.report _ _
    (only_same c.args.ctx.now) (λ u so. none_due (subject_data c.args.node) c.in-None.ensures (named c.args.dependencies.now))
