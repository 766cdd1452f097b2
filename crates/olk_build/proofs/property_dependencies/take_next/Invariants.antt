use Rattle.std.proofs.Common.{length, ◌≡◌, ◌+◌, ◌++◌}
use Rattle.olk_build.proofs.property_dependencies.take_next.Given as goal

abbrev pub invariant-loop : goal.invariant-loop
invariant-loop g l = record {
  items : l.fn.nodes.rest.items ≡ l.taken.items ++ l.nodes.rest.items;
  taken : length l.taken.items ≡ l.counter;
  left : l.counter + l.nodes.rest.len ≡ l.fn.nodes.rest.len;
}
