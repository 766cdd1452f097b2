use Rattle.olk_reports.proofs.Evaluations.{shown_more, valid_more}
use Rattle.olk_reports.proofs.evaluation.EvaluationResult.add_child_growing.Goals as goal

pub invariant_of-self-2 : goal.invariant_of-self-2
invariant_of-self-2 c = valid_more _ c.args.child c.in_ok-push.ensures.items _ _ c.valid-valid.ensures c.self.invariant

pub returns-clause-added : goal.returns-clause-added
returns-clause-added c = shown_more _ c.args.child c.in_ok-push.ensures.items c.valid-valid.ensures c.self.view_is
