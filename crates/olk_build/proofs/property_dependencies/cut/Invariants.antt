use Rattle.std.proofs.Common.{length, ◌≡◌}
use Rattle.olk_build.proofs.{Pairs.SoFar, PropertyDependencies.MadeByCutting}
use Rattle.olk_build.proofs.property_dependencies.cut.Given as goal

abbrev pub invariant-loop-names : goal.invariant-loop-names
invariant-loop-names g l = record {
  made : SoFar MadeByCutting (l.fn.texts.items, l.fn.nodes.items) (l.names-iterator.rest.items, l.nodes.rest.items) l.maps.items;
  nodes : length l.nodes.rest.items ≡ l.nodes.rest.len;
  count : length l.names-iterator.rest.items ≡ l.names-iterator.rest.len;
  next : (goal.iterator-loop-names g).can_next l.names-iterator;
  ends : (goal.iterator-loop-names g).is_finite l.names-iterator;
}
