use Rattle.olk_tree.proofs.Lists.{next_at, past_end}
use Rattle.olk_check.proofs.Counting.{one_start, one_end, count_end, one_refused, one_found, second_found, count_several}
use Rattle.olk_check.proofs.one_of.how_many_accept.Goals as goal

pub loop-schema-init : goal.loop-schema-init
loop-schema-init g c = one_start

pub returns-then-found-clause-asks : goal.returns-then-found-clause-asks
returns-then-found-clause-asks g c = second_found c.loop-schema.invariant (next_at c.deref-schema-items.ensures.value c.schema-item.is c.loop-schema-test.true) c.if-found.true c.if-check.ensures

pub returns-then-found-clause-count : goal.returns-then-found-clause-count
returns-then-found-clause-count g c = count_several c.loop-schema.invariant (next_at c.deref-schema-items.ensures.value c.schema-item.is c.loop-schema-test.true) c.if-found.true c.if-check.ensures

pub loop-schema-preserved : goal.loop-schema-preserved
loop-schema-preserved g c = elim c.if-check.branch [
  | goal.then-check+else-found w ↦ rw w.found-is
      (one_found c.loop-schema.invariant (next_at c.deref-schema-items.ensures.value c.schema-item.is c.loop-schema-test.true) w.if-found.false w.if-check.ensures)
  | goal.else-check w ↦ rw w.found-is
      (one_refused c.loop-schema.invariant (next_at c.deref-schema-items.ensures.value c.schema-item.is c.loop-schema-test.true) w.if-check.ensures)
]

pub returns-then-found-2-clause-asks : goal.returns-then-found-2-clause-asks
returns-then-found-2-clause-asks g c = one_end c.loop-schema.invariant c.if-found-2.true (past_end c.deref-schema-items.ensures.value c.loop-schema-test.false)

pub returns-then-found-2-clause-count : goal.returns-then-found-2-clause-count
returns-then-found-2-clause-count g c = count_end c.loop-schema.invariant c.if-found-2.true (past_end c.deref-schema-items.ensures.value c.loop-schema-test.false)

pub returns-else-found-2-clause-asks : goal.returns-else-found-2-clause-asks
returns-else-found-2-clause-asks g c = one_end c.loop-schema.invariant c.if-found-2.false (past_end c.deref-schema-items.ensures.value c.loop-schema-test.false)

pub returns-else-found-2-clause-count : goal.returns-else-found-2-clause-count
returns-else-found-2-clause-count g c = count_end c.loop-schema.invariant c.if-found-2.false (past_end c.deref-schema-items.ensures.value c.loop-schema-test.false)
