use Rattle.std.proofs.Common.{sym}
use Rattle.olk_reports.proofs.Evaluations.{schema_path_at}
use Rattle.olk_reports.proofs.evaluation.EvaluationNode.schema_path.Goals as goal

pub returns : goal.returns
returns c = sym (schema_path_at _ _ c.args.self.now.result)
