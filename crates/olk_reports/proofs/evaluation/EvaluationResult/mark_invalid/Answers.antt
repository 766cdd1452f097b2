use Rattle.std.proofs.Common.{ap}
use Rattle.olk_reports.specs.Evaluations.{called_invalid}
use Rattle.olk_reports.proofs.evaluation.EvaluationResult.mark_invalid.Goals as goal

pub invariant_of-self : goal.invariant_of-self
invariant_of-self c valid = cc

pub returns : goal.returns
returns c = ap called_invalid c.self.view_is
