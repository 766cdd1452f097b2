use Rattle.olk_base.specs.Nodes.{subject_data}
use Rattle.olk_tree.proofs.Members_met.{no_members}
use Rattle.olk_check.proofs.Asked.{only_same}
use Rattle.olk_errors.proofs.Names.{no_names}
use Rattle.olk_errors.proofs.Sinks.{walks_past}
use Rattle.olk_errors.proofs.property_names.PropertyNamesWalk.walk.Goals as goal

pub returns-in-None : goal.returns-in-None
returns-in-None g c = walks_past (only_same c.args.ctx.now) (λ u so. no_names _
    _ g.N.Means.means g.N.Reports.first g.N.Reports.report u c.args.self.now.node (no_members (subject_data c.args.node) c.in-None.ensures))
