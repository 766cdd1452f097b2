use Rattle.std.proofs.Common.{true, false, refl, sym, subst, Ok}
use Rattle.olk_base.specs.Nodes.{subject_data}
use Rattle.olk_spec.specs.Faults.{itself, FalseSchema}
use Rattle.olk_reports.specs.Paths.{path_at}
use Rattle.olk_reports.proofs.Errors.{kind_of_false_schema}
use Rattle.olk_check.proofs.Asked.{only_same}
use Rattle.olk_errors.proofs.Own.{like_at, walks_own, is_own}
use Rattle.olk_errors.proofs.Sinks.{walks_past}
use Rattle.olk_errors.specs.Outcomes.{of_body}
use Rattle.olk_errors.specs.Sinks.{Walks}
use Rattle.olk_errors.proofs.node.walk_other.Goals as goal

pub returns-in-True : goal.returns-in-True
returns-in-True g c = subst (λ b. Walks (Ok tt) c.args.sink.now c.args.sink.now c.args.ctx.now c.args.ctx.now
    (λ u. of_body g.W.Means.means g.W.Reports.first g.W.Reports.report u c.args.location.now b (subject_data c.args.node) (path_at c.args.trail.now))) (sym c.in-True.is)
    (walks_past (only_same c.args.ctx.now) (λ u so. refl))

pub returns-in-False : goal.returns-in-False
returns-in-False g c = subst (λ b. Walks c.report.result c.args.sink.now c.report.new.self c.args.ctx.now c.args.ctx.now
    (λ u. of_body g.W.Means.means g.W.Reports.first g.W.Reports.report u c.args.location.now b (subject_data c.args.node) (path_at c.args.trail.now))) (sym c.in-False.is)
    (walks_own (only_same c.args.ctx.now) c.report.ensures (λ u so. is_own FalseSchema _ c.args.location.now _ {accepts = false} {case = true} refl refl refl
    (like_at kind_of_false_schema itself refl refl)))

pub returns-in-RequiredNames : goal.returns-in-RequiredNames
returns-in-RequiredNames g c = rw c.in-RequiredNames.is (rw (sym c.deref.ensures) c.walk.ensures)
