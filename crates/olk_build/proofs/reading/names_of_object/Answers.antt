use Rattle.olk_build.proofs.Spending.{exit, tells_memory}
use Rattle.olk_build.proofs.reading.names_of_object.Goals as goal

pub returns-in_err-of-clause-refused : goal.returns-in_err-of-clause-refused
returns-in_err-of-clause-refused c = exit _ _ _ c.from_residual.ensures.1 (tells_memory _)
