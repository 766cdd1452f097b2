use Rattle.std.proofs.Common.{rules}
use Rattle.olk_reports.proofs.evaluation.ErrorDescription.from_validation_error.Goals as goal

pub returns : goal.returns
returns c = search rules
