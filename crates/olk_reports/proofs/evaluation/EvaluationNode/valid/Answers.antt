use Rattle.std.proofs.Common.{sym, ◌∙◌}
use Rattle.olk_reports.proofs.Evaluations.{valid_at}
use Rattle.olk_reports.proofs.evaluation.EvaluationNode.valid.Goals as goal

pub returns : goal.returns
returns c = c.valid.ensures ∙ sym (valid_at _ _ c.args.self.now.result)
