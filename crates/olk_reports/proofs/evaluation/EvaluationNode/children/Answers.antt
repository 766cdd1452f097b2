use Rattle.std.proofs.Common.{◌∙◌, sym}
use Rattle.olk_reports.proofs.Evaluations.{children_at, consistent_at}
use Rattle.olk_reports.proofs.evaluation.EvaluationNode.children.Goals as goal

pub returns-clause-nodes : goal.returns-clause-nodes
returns-clause-nodes c = c.children.ensures.nodes ∙ sym (children_at _ _ c.args.self.now.result)

pub returns-clause-validity : goal.returns-clause-validity
returns-clause-validity c = consistent_at _ _ c.args.self.now.result c.children.ensures.validity
