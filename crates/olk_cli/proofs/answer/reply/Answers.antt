use Rattle.std.proofs.lemmas.Result.{IfOk-weaker}
use Rattle.olk_reports.specs.Errors.{fault_of}
use Rattle.olk_cli.specs.Seen.{seen}
use Rattle.olk_cli.proofs.Replies.{reply_is_by, reply_is_refusal}
use Rattle.olk_cli.proofs.answer.reply.Goals as goal

pub returns-in-Ok : goal.returns-in-Ok
returns-in-Ok c =
    let r = seen c.args.request.now in
    IfOk-weaker c.tell.result _ _ (λ answer is. reply_is_by r answer.items c.in-Ok.ensures.clean is) c.tell.ensures

pub returns-in-Err-Refused : goal.returns-in-Err-Refused
returns-in-Err-Refused c =
    let told = rw c.in-Err-Refused.field-0-is at c.in-Err-Refused.ensures.refused in
    IfOk-weaker c.malformation_text.result _ _ (λ answer is. reply_is_refusal (seen c.args.request.now) (fault_of c.in-Err-Refused.error) answer.items c.requires told is) c.malformation_text.ensures
