use Rattle.olk_build.proofs.Spending.{exit, refuses_memory, within_nothing}
use Rattle.olk_build.proofs.properties.compile_small_map.Goals as goal

pub returns-in_err-names-clause-refused : goal.returns-in_err-names-clause-refused
returns-in_err-names-clause-refused g c = exit _ _ _ c.from_residual.ensures.1 (refuses_memory within_nothing)
