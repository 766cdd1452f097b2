use Rattle.olk_base.specs.Nodes.{subject_data}
use Rattle.olk_reports.specs.Paths.{path_at}
use Rattle.olk_errors.specs.Outcomes.{of_body, of_branches}
use Rattle.olk_errors.proofs.Sinks.{walks_left, walks_before}
use Rattle.olk_documents.proofs.Outcomes.{walks_both}
use Rattle.olk_documents.proofs.errors.walk_both.Goals as goal

pub returns-in_err-walk_body : goal.returns-in_err-walk_body
returns-in_err-walk_body g c = walks_left c.from_residual.ensures.0
    (walks_before (λ u. of_branches g.M.Means.means g.M.Reports.first g.M.Reports.report u c.args.more.now.items (subject_data c.args.node) (path_at c.args.trail.now)) c.in_err-walk_body.ensures)

pub returns : goal.returns
returns g c =
    let v = subject_data c.args.node in
    let Q = path_at c.args.trail.now in
    walks_both (λ u. of_body g.W.Means.means g.W.Reports.first g.W.Reports.report u c.args.location.now c.args.body.now v Q)
    (λ u. of_branches g.M.Means.means g.M.Reports.first g.M.Reports.report u c.args.more.now.items v Q) c.in_ok-walk_body.ensures c.walk_each.ensures
