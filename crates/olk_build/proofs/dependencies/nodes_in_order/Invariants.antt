use Rattle.std.proofs.Common.{length, ◌≡◌}
use Rattle.olk_base.specs.Kit.{kit}
use Rattle.olk_build.proofs.{DependencyKeywords.MadeInOrder, Pairs.SoFar}
use Rattle.olk_build.proofs.dependencies.nodes_in_order.Given as goal

abbrev pub invariant-loop-list : goal.invariant-loop-list
invariant-loop-list g l = record {
  made : SoFar (MadeInOrder (kit g.K.Leaf g.R.RegexEngine) g.N.BuiltNode.answers l.location) (l.fn.lists.items, l.fn.schemas.items) (l.list-iterator.rest.items, l.schemas.rest.items) l.nodes.items;
  schemas : length l.schemas.rest.items ≡ l.schemas.rest.len;
  count : length l.list-iterator.rest.items ≡ l.list-iterator.rest.len;
  next : (goal.iterator-loop-list g).can_next l.list-iterator;
  ends : (goal.iterator-loop-list g).is_finite l.list-iterator;
}
