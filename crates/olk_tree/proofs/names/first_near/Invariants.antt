use Rattle.olk_tree.specs.Ascending.{IsBefore}
use Rattle.olk_tree.specs.Sorted.{heads_of}
use Rattle.olk_tree.proofs.names.first_near.Given as goal

abbrev pub invariant-loop-place : goal.invariant-loop-place
invariant-loop-place l = IsBefore (heads_of l.names) l.head l.place
