use Rattle.olk_base.specs.Nodes.{subject_data}
use Rattle.olk_reports.specs.Paths.{path_at}
use Rattle.olk_errors.proofs.If.{past_else, walks_else}
use Rattle.olk_errors.specs.Outcomes.{of_node}
use Rattle.olk_errors.proofs.if_.IfElseWalk.walk.Goals as goal

pub returns-then-accepts : goal.returns-then-accepts
returns-then-accepts g c = past_else (λ u. of_node g.N.Means.means g.N.Reports.first g.N.Reports.report u c.args.self.now.else_schema (subject_data c.args.node) (path_at c.args.trail.now)) c.if-accepts.ensures

pub returns : goal.returns
returns g c = walks_else (λ u. of_node g.N.Means.means g.N.Reports.first g.N.Reports.report u c.args.self.now.else_schema (subject_data c.args.node) (path_at c.args.trail.now)) c.if-accepts.ensures c.walk.ensures
