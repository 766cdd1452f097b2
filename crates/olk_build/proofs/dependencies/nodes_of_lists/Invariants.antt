use Rattle.std.proofs.Common.{length, ◌≡◌}
use Rattle.olk_base.specs.Kit.{kit}
use Rattle.olk_build.specs.Forms.{AreListsAt}
use Rattle.olk_build.proofs.Pairs.{SoFar}
use Rattle.olk_build.proofs.dependencies.nodes_of_lists.Given as goal

abbrev pub invariant-loop-list : goal.invariant-loop-list
invariant-loop-list g l = record {
  made : SoFar (AreListsAt (kit g.K.Leaf g.R.RegexEngine) g.N.BuiltNode.answers l.location) l.fn.lists.items l.list-iterator.rest.items l.nodes.items;
  count : length l.list-iterator.rest.items ≡ l.list-iterator.rest.len;
  next : (goal.iterator-loop-list g).can_next l.list-iterator;
  ends : (goal.iterator-loop-list g).is_finite l.list-iterator;
}
