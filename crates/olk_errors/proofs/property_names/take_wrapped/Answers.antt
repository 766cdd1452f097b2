use Rattle.olk_errors.proofs.Sinks.{ends_nowhere}
use Rattle.olk_errors.proofs.property_names.take_wrapped.Goals as goal

pub returns-in_err-error : goal.returns-in_err-error
returns-in_err-error c = ends_nowhere c.from_residual.ensures.0
