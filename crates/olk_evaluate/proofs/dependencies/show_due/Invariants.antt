use Rattle.std.proofs.Common.{map}
use Rattle.olk_base.specs.Nodes.{subject_data}
use Rattle.olk_reports.specs.Evaluations.{shown_of}
use Rattle.olk_tree.specs.Visited.{left_of}
use Rattle.olk_evaluate.specs.Wanted.{ShowsMore, wanted}
use Rattle.olk_evaluate.proofs.Shows.{Leaves}
use Rattle.olk_evaluate.proofs.dependencies.show_due.Given as goal

abbrev pub invariant-loop-dependency : goal.invariant-loop-dependency
invariant-loop-dependency g l =
    Leaves (λ u Q ds. ShowsMore (map (λ d. wanted g.N.Show.tree g.N.Means.means u d.node (subject_data l.node) Q) ds)) (left_of l.initial.dependency-iterator) (left_of l.dependency-iterator)
    (shown_of l.initial.outcome) (shown_of l.outcome) l.initial.ctx.path l.ctx.path l.initial.ctx.validation l.ctx.validation
