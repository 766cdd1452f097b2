use Rattle.olk_spec.specs.Names.{◌//◌}
use Rattle.olk_reports.specs.Paths.{path_at}
use Rattle.olk_tree.specs.Visited.{left_of}
use Rattle.olk_errors.proofs.Loops.{Walking}
use Rattle.olk_errors.proofs.properties.walk_each_name.Given as goal

abbrev pub invariant-loop-name : goal.invariant-loop-name
invariant-loop-name g l = Walking (λ d. g.N.Means.means d.node d.value)
    (λ u d. g.N.Reports.first d.node u d.value (path_at l.trail // d.name)) (λ u d. g.N.Reports.report d.node u d.value (path_at l.trail // d.name))
    (left_of l.initial.name-iterator) (left_of l.name-iterator) l.initial.sink l.sink l.initial.ctx l.ctx
