use Rattle.std.proofs.Common.{drop}
use Rattle.olk_base.specs.Nodes.{subject_data}
use Rattle.olk_reports.specs.Paths.{path_at}
use Rattle.olk_errors.proofs.Loops.{Walking}
use Rattle.olk_errors.proofs.branches.walk_each.Given as goal

abbrev pub invariant-loop-n : goal.invariant-loop-n
invariant-loop-n g l = Walking (λ n. g.N.Means.means n (subject_data l.node))
    (λ u n. g.N.Reports.first n u (subject_data l.node) (path_at l.trail)) (λ u n. g.N.Reports.report n u (subject_data l.node) (path_at l.trail))
    l.nodes.items (drop l.n-index l.nodes.items) l.initial.sink l.sink l.initial.ctx l.ctx
