use Rattle.olk_reports.specs.Evaluations.{shown_of}
use Rattle.olk_tree.specs.Visited.{left_of}
use Rattle.olk_evaluate.specs.Members.{MeetsMore, wanted_at}
use Rattle.olk_evaluate.proofs.Shows.{Leaves}
use Rattle.olk_evaluate.proofs.properties.show_declared_members.Given as goal

abbrev pub invariant-loop-name : goal.invariant-loop-name
invariant-loop-name g l =
    Leaves (λ u Q. MeetsMore (wanted_at g.N.Show.tree g.N.Means.means u Q)) (left_of l.initial.name-iterator) (left_of l.name-iterator)
    (shown_of l.initial.outcome) (shown_of l.outcome) l.initial.ctx.path l.ctx.path l.initial.ctx.validation l.ctx.validation
