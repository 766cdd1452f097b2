use Rattle.std.proofs.Common.{add-one}
use Rattle.olk_vocabulary.proofs.Kept.{none_kept, next_kept, all_kept}
use Rattle.olk_vocabulary.proofs.candidates.Candidates.new.Goals as goal

pub loop-value-init : goal.loop-value-init
loop-value-init c = λ v. none_kept _ c.new-kept.result v (c.new-kept.ensures v)

pub loop-value-preserved : goal.loop-value-preserved
loop-value-preserved c = rw add-one (next_kept c.loop-value.kept c.keep.new.self c.deref-value-items.result.now c.loop-value.value-index c.value-item.result c.loop-value-test.true c.value-item.is c.in_ok-keep.ensures c.loop-value.invariant)

pub invariant_of-result : goal.invariant_of-result
invariant_of-result c = record { all = all_kept c.deref-value-items.result.now c.args.values.items c.loop-value.kept c.loop-value.value-index c.deref-value-items.ensures.value c.loop-value-test.false c.loop-value.invariant }
