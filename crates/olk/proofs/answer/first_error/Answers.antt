use Rattle.std.proofs.Common.{ap, subst}
use Rattle.serde_json.specs.View.{view}
use Rattle.olk_base.specs.Lawful.{Asking}
use Rattle.olk_base.specs.Kit.{world}
use Rattle.olk_errors.specs.Found.{IfInvalid}
use Rattle.olk_document_spec.specs.Documents.{document_meaning}
use Rattle.olk_document.specs.Validators.{IsRefusalBy}
use Rattle.olk.proofs.answer.first_error.Goals as goal

pub returns-in-Err-Invalid : goal.returns-in-Err-Invalid
returns-in-Err-Invalid g c =
    let q = c.args.question.now in
    let same = ap (λ (a : Asking). a.answer) c.new-ctx.ensures in
    let refusal = rw same at (c.in-Err-Invalid.ensures.invalid (view q.schema.now) c.requires.stands) in
    subst (λ e. IfInvalid e (IsRefusalBy (document_meaning (world g.K.Leaf g.R.RegexEngine) q.unfinished (view q.schema.now)) (view q.instance.now))) c.in-Err-Invalid.field-0-is refusal
