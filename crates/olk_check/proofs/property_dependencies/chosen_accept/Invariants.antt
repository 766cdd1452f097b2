use Rattle.olk_tree.specs.Questions.{every}
use Rattle.olk_tree.specs.Visited.{left_of}
use Rattle.olk_tree.proofs.Due.{chosen}
use Rattle.olk_check.proofs.Walks.{AllLeft}
use Rattle.olk_check.proofs.property_dependencies.chosen_accept.Given as goal

abbrev pub invariant-loop-choices : goal.invariant-loop-choices
invariant-loop-choices g l = AllLeft (λ d. every (λ n. g.N.Means.means n (g.A.Asked.stands_for l.asked)) (chosen d)) (left_of l.initial.choices-iterator) (left_of l.choices-iterator) l.initial.ctx l.ctx
