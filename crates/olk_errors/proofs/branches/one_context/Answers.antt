use Rattle.std.proofs.Common.{[], ◌∷◌, refl}
use Rattle.std.proofs.lemmas.Result.{IfOk-weaker}
use Rattle.olk_base.specs.Nodes.{subject_data}
use Rattle.olk_reports.specs.Paths.{path_at}
use Rattle.olk_errors.proofs.Contexts.{branching_start, branching_more, branching_end}
use Rattle.olk_errors.proofs.branches.one_context.Goals as goal

pub returns-clause-contexts : goal.returns-clause-contexts
returns-clause-contexts g c =
    let start = branching_start {f = λ u n. g.N.Reports.report n u (subject_data c.args.node) (path_at c.args.trail.now)} {all = c.args.branch.now ∷ []} {a = c.args.ctx.now} in
    IfOk-weaker c.one.result _ _ (λ contexts are. branching_end (branching_more start c.in_ok-errors.errors refl c.in_ok-errors.ensures.errors are c.errors_of.ensures.context) refl) c.one.ensures
