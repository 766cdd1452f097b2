use Rattle.std.proofs.Common.{ap}
use Rattle.olk_reports.specs.Evaluations.{shown_valid}
use Rattle.olk_reports.proofs.evaluation.EvaluationResult.valid.Goals as goal

pub returns : goal.returns
returns c = ap shown_valid c.self.view_is
