use Rattle.std.proofs.Common.{Bool, ap, ◌∙◌, decimal}
use Rattle.serde_json.specs.View.{view}
use Rattle.olk_spec.specs.Names.{Path, ◌//◌}
use Rattle.olk_reports.specs.Paths.{path_at}
use Rattle.olk_errors.specs.Found.{Outcome}
use Rattle.olk_errors.specs.Outcomes.{of_node}
use Rattle.olk_errors.proofs.Sinks.{walks_nowhere, walks_asked, walks_same}
use Rattle.olk_documents.proofs.Outcomes.{node_past}
use Rattle.olk_documents.proofs.errors.walk_item.Goals as goal

pub returns-then-check : goal.returns-then-check
returns-then-check g c =
    let Q = path_at c.args.trail.now // decimal c.args.index in
    node_past g.N.Means.means g.N.Reports.first g.N.Reports.report c.if-check.ensures Q
    (λ u. g.met.N.Reports.agrees c.args.n.now u (view c.args.item.now) Q) (λ u. g.met.N.Reports.first_agrees c.args.n.now u (view c.args.item.now) Q)

pub returns-in_err-path : goal.returns-in_err-path
returns-in_err-path g c = walks_nowhere c.from_residual.ensures.0 c.if-check.ensures.only

pub returns : goal.returns
returns g c =
    let at : Bool → Path → Outcome = λ u Q. of_node g.N.Means.means g.N.Reports.first g.N.Reports.report u c.args.n.now (view c.args.item.now) Q in
    walks_asked (λ u. at u (path_at c.args.trail.now // decimal c.args.index)) c.if-check.ensures.only
    (walks_same (λ u so. ap (at u) (c.as_str.ensures.value ∙ c.in_ok-path.ensures)) c.walk.ensures)
