use Rattle.std.proofs.lemmas.Result.{on_ok_weaker}
use Rattle.serde_json.specs.View.{view}
use Rattle.olk_errors.proofs.Appending.{told_so, if_told}
use Rattle.olk_document.proofs.Verdicts.{certain_of_document}
use Rattle.olk_document.proofs.Reports.{accepts_of_document, refusal_of_document}
use Rattle.olk_document.proofs.validator.DocumentValidator.validate.Goals as goal

pub returns-clause-ok : goal.returns-clause-ok
returns-clause-ok g c D stands = on_ok_weaker c.validate.result (accepts_of_document stands.root c.args.ctx.now.answer (view c.args.instance.now))
    (rw c.new-path.ensures at c.validate.ensures.ok)

pub returns-clause-invalid : goal.returns-clause-invalid
returns-clause-invalid g c D stands = told_so c.validate.result (refusal_of_document stands.root c.args.ctx.now.answer (view c.args.instance.now))
    (rw c.new-path.ensures at c.validate.ensures.invalid)

pub returns-clause-first : goal.returns-clause-first
returns-clause-first g c = told_so c.validate.result (λ f h. h.of_first) (rw c.new-path.ensures at c.validate.ensures.invalid)

pub returns-clause-certain : goal.returns-clause-certain
returns-clause-certain g c D stands = if_told c.validate.result (certain_of_document stands.root (view c.args.instance.now)) c.validate.ensures.certain
