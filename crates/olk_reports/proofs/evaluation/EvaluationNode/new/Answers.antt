use Rattle.std.proofs.Common.{ap, ◌∙◌}
use Rattle.olk_reports.specs.Evaluations.{node_at}
use Rattle.olk_reports.proofs.evaluation.EvaluationNode.new.Goals as goal

pub returns : goal.returns
returns c = c.at.ensures ∙ ap (λ Q. node_at c.args.schema_path.now Q c.args.outcome) c.from.ensures
