use Rattle.std.proofs.Common.{◌∙◌}
use Rattle.olk_reports.proofs.Evaluations.{shown_errored}
use Rattle.olk_reports.proofs.evaluation.EvaluationResult.mark_errored.Goals as goal

pub returns-clause-ok : goal.returns-clause-ok
returns-clause-ok c = c.mark_invalid.ensures ∙ shown_errored _ c.args.error c.in_ok-push.ensures.items c.self.view_is
