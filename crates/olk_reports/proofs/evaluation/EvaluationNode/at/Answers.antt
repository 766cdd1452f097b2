use Rattle.std.proofs.Common.{refl}
use Rattle.olk_reports.proofs.evaluation.EvaluationNode.at.Goals as goal

pub returns : goal.returns
returns c = refl
