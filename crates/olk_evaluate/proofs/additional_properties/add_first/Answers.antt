use Rattle.std.proofs.Common.{refl}
use Rattle.std.proofs.lemmas.Result.{on_ok_weaker}
use Rattle.olk_reports.proofs.Errors.{kind_of_false_schema}
use Rattle.olk_evaluate.proofs.OwnErrors.{adds_as, first_told}
use Rattle.olk_evaluate.proofs.additional_properties.add_first.Goals as goal

pub returns-in-Some : goal.returns-in-Some
returns-in-Some c = on_ok_weaker c.mark_errored_by.result
    (λ added v P Q. first_told v P Q c.in-Some.ensures.steps c.iter.ensures.rest (adds_as kind_of_false_schema refl (added P Q))) c.mark_errored_by.ensures.added
