use Rattle.olk_base.specs.Nodes.{subject_data}
use Rattle.olk_reports.specs.Paths.{path_at}
use Rattle.olk_tree.specs.Visited.{left_of}
use Rattle.olk_errors.proofs.Loops.{Walking}
use Rattle.olk_errors.proofs.dependencies.walk_due.Given as goal

abbrev pub invariant-loop-dependency : goal.invariant-loop-dependency
invariant-loop-dependency g l = Walking (λ d. g.N.Means.means d.node (subject_data l.object))
    (λ u d. g.N.Reports.first d.node u (subject_data l.object) (path_at l.trail)) (λ u d. g.N.Reports.report d.node u (subject_data l.object) (path_at l.trail))
    (left_of l.initial.dependency-iterator) (left_of l.dependency-iterator) l.initial.sink l.sink l.initial.ctx l.ctx
