use Rattle.olk_build.proofs.Spending.{exit_with}
use Rattle.olk_document_build.proofs.build.compile_at.Goals as goal

pub returns-in_err-compile_place-clause-refused : goal.returns-in_err-compile_place-clause-refused
returns-in_err-compile_place-clause-refused g c = exit_with _ _ _ c.from_residual.ensures.1 c.in_err-compile_place.ensures.refused
