use Rattle.olk_spec.specs.Schemas.{at}
use Rattle.olk_tree.specs.Entries.{each_left}
use Rattle.olk_tree.specs.Questions.{every}
use Rattle.olk_tree.specs.Visited.{object_of}
use Rattle.olk_check.proofs.Walks.{AllLeft}
use Rattle.olk_check.proofs.properties.each_name_accepted.Given as goal

abbrev pub invariant-loop-name : goal.invariant-loop-name
invariant-loop-name g l =
    AllLeft (λ e. every (g.N.Means.means e.1) (at e.0 (object_of l.members.entries)))
    (each_left l.initial.name-iterator) (each_left l.name-iterator) l.initial.ctx l.ctx
