use Rattle.std.proofs.Common.{subst}
use Rattle.std.proofs.lemmas.Result.{on_ok_weaker}
use Rattle.olk_reports.specs.Evaluations.{IsDescribedBy, described_of}
use Rattle.olk_reports.proofs.Evaluations.{adds_one}
use Rattle.olk_reports.proofs.evaluation.EvaluationResult.mark_errored_by.Goals as goal

pub returns-clause-added : goal.returns-clause-added
returns-clause-added c = on_ok_weaker c.mark_errored.result
    (λ added P Q. adds_one (subst (λ f. IsDescribedBy f (described_of c.in_ok-description.description)) c.new-error.ensures.fault c.in_ok-description.ensures) added)
    c.mark_errored.ensures.ok
