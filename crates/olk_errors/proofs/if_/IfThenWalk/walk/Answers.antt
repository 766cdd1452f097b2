use Rattle.olk_base.specs.Nodes.{subject_data}
use Rattle.olk_reports.specs.Paths.{path_at}
use Rattle.olk_errors.proofs.If.{past_then, walks_then}
use Rattle.olk_errors.specs.Outcomes.{of_node}
use Rattle.olk_errors.proofs.if_.IfThenWalk.walk.Goals as goal

pub returns-then-not-accepts : goal.returns-then-not-accepts
returns-then-not-accepts g c = past_then (λ u. of_node g.N.Means.means g.N.Reports.first g.N.Reports.report u c.args.self.now.then_schema (subject_data c.args.node) (path_at c.args.trail.now)) c.if-not-accepts.ensures

pub returns : goal.returns
returns g c = walks_then (λ u. of_node g.N.Means.means g.N.Reports.first g.N.Reports.report u c.args.self.now.then_schema (subject_data c.args.node) (path_at c.args.trail.now)) c.if-not-accepts.ensures c.walk.ensures
