use Rattle.olk_answers.proofs.ToldLemmas.{told_next}
use Rattle.olk_answers.proofs.errors.told_errors.Goals as goal

pub loop-error-preserved : goal.loop-error-preserved
loop-error-preserved c =
    rw c.in_ok-push.ensures.items (λ none.
    told_next c.args.errors.now c.loop-error.error-index c.error-item.result _ _ c.loop-error-test.true c.error-item.is none c.in_ok-told_error.ensures (c.loop-error.invariant none))
