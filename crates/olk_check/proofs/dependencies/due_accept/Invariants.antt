use Rattle.olk_tree.specs.Visited.{left_of}
use Rattle.olk_check.proofs.Walks.{AllLeft}
use Rattle.olk_check.proofs.dependencies.due_accept.Given as goal

abbrev pub invariant-loop-dependency : goal.invariant-loop-dependency
invariant-loop-dependency g l = AllLeft (λ d. g.N.Means.means d.node (g.A.Asked.stands_for l.asked)) (left_of l.initial.dependency-iterator) (left_of l.dependency-iterator) l.initial.ctx l.ctx
