use Rattle.std.proofs.Common.{ap}
use Rattle.std.proofs.lemmas.Result.{IfOk-weaker}
use Rattle.olk_base.specs.Lawful.{Asking}
use Rattle.olk_base.specs.Kit.{world}
use Rattle.olk_replies.specs.Seen.{seen}
use Rattle.olk_replies.proofs.Telling.{added_are_errors}
use Rattle.olk_replies.proofs.replies.tell_errors.Goals as goal

pub returns : goal.returns
returns g c =
    let q = seen c.args.question.now in
    let same = ap (λ (a : Asking). a.answer) c.new-ctx.ensures in
    let appended = rw same at (rw c.new-errors.ensures.items at (c.in_ok-collect_errors.ensures.report q.schema c.requires.stands)) in
    let added = rw (← c.deref.ensures.value) at appended in
    IfOk-weaker c.errors_text.result _ _ (λ answer is plain. added_are_errors (world g.K.Leaf g.R.RegexEngine) q plain c.deref.result.now answer.items added is) c.errors_text.ensures
