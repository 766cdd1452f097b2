use Rattle.olk_base.specs.Nodes.{subject_data}
use Rattle.olk_reports.specs.Paths.{path_at}
use Rattle.olk_tree.specs.Questions.{every}
use Rattle.olk_tree.specs.Visited.{left_of}
use Rattle.olk_tree.proofs.Due.{chosen}
use Rattle.olk_errors.specs.Outcomes.{of_branches}
use Rattle.olk_errors.proofs.Loops.{Walking}
use Rattle.olk_errors.proofs.property_dependencies.walk_chosen.Given as goal

abbrev pub invariant-loop-choices : goal.invariant-loop-choices
invariant-loop-choices g l = Walking (λ d. every (λ n. g.N.Means.means n (subject_data l.object)) (chosen d))
    (λ u d. (of_branches g.N.Means.means g.N.Reports.first g.N.Reports.report u (chosen d) (subject_data l.object) (path_at l.trail)).first)
    (λ u d. (of_branches g.N.Means.means g.N.Reports.first g.N.Reports.report u (chosen d) (subject_data l.object) (path_at l.trail)).all)
    (left_of l.initial.choices-iterator) (left_of l.choices-iterator) l.initial.sink l.sink l.initial.ctx l.ctx
