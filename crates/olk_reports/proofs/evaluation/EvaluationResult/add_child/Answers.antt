use Rattle.olk_reports.proofs.Evaluations.{shown_more, valid_more}
use Rattle.olk_reports.proofs.evaluation.EvaluationResult.add_child.Goals as goal

pub invariant_of-self : goal.invariant_of-self
invariant_of-self c = valid_more _ c.args.child c.push_reserved.ensures.items _ _ c.valid.ensures c.self.invariant

pub returns-clause-added : goal.returns-clause-added
returns-clause-added c = shown_more _ c.args.child c.push_reserved.ensures.items c.valid.ensures c.self.view_is
