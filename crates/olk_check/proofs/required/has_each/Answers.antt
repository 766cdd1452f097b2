use Rattle.olk_check.proofs.Missing.{lacks_more, lacks_stop}
use Rattle.olk_check.proofs.required.has_each.Goals as goal

pub returns-then-not-is_present : goal.returns-then-not-is_present
returns-then-not-is_present c = lacks_stop c.loop-name.invariant c.as_str.ensures.value c.if-not-is_present.ensures c.deref-name-items.ensures.value c.name-item.is c.loop-name-test.true

pub loop-name-preserved : goal.loop-name-preserved
loop-name-preserved c = lacks_more c.loop-name.invariant c.as_str.ensures.value c.if-not-is_present.ensures c.deref-name-items.ensures.value c.name-item.is c.loop-name-test.true
