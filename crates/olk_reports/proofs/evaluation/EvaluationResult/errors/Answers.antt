use Rattle.std.proofs.Common.{ap, ◌∙◌, map}
use Rattle.olk_reports.specs.Evaluations.{described_of, shown_errors}
use Rattle.olk_reports.proofs.evaluation.EvaluationResult.errors.Goals as goal

pub returns : goal.returns
returns c = ap (map described_of) c.as_slice.ensures.value ∙ ap shown_errors c.self.view_is
