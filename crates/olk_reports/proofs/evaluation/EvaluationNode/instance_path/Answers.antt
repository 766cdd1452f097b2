use Rattle.std.proofs.Common.{sym, ◌∙◌}
use Rattle.olk_reports.proofs.Evaluations.{instance_path_at}
use Rattle.olk_reports.proofs.evaluation.EvaluationNode.instance_path.Goals as goal

pub returns : goal.returns
returns c = c.as_str.ensures ∙ sym (instance_path_at _ _ c.args.self.now.result)
