use Rattle.std.proofs.Common.{◌∙◌, sym}
use Rattle.olk_reports.proofs.Evaluations.{errors_at}
use Rattle.olk_reports.proofs.evaluation.EvaluationNode.errors.Goals as goal

pub returns : goal.returns
returns c = c.errors.ensures ∙ sym (errors_at _ _ c.args.self.now.result)
