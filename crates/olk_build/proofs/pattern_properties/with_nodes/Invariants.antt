use Rattle.std.proofs.Common.{length, ◌≡◌}
use Rattle.olk_build.proofs.{PatternProperties.MadeOf, Pairs.SoFar}
use Rattle.olk_build.proofs.pattern_properties.with_nodes.Given as goal

abbrev pub invariant-loop-entry : goal.invariant-loop-entry
invariant-loop-entry g l = record {
  made : SoFar MadeOf (l.fn.patterns.items, l.fn.nodes.items) (l.entry-iterator.a.rest.items, l.entry-iterator.b.rest.items) l.entries.items;
  patterns : length l.entry-iterator.a.rest.items ≡ l.entry-iterator.a.rest.len;
  nodes : length l.entry-iterator.b.rest.items ≡ l.entry-iterator.b.rest.len;
  next : (goal.iterator-loop-entry g).can_next l.entry-iterator;
  ends : (goal.iterator-loop-entry g).is_finite l.entry-iterator;
}
