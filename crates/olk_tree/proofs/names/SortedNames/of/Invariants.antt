use Rattle.olk_tree.proofs.Members_named.{NamesSoFar}
use Rattle.olk_tree.proofs.names.SortedNames.of.Given as goal

abbrev pub invariant-loop-name : goal.invariant-loop-name
invariant-loop-name l = NamesSoFar l.names.items l.name-iterator l.object.entries
