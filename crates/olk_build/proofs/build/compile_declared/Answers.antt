use Rattle.olk_build.proofs.Spending.{exit, exit_with, refuses_memory, within_nothing}
use Rattle.olk_build.proofs.build.compile_declared.Goals as goal

pub returns-in_err-location-clause-refused : goal.returns-in_err-location-clause-refused
returns-in_err-location-clause-refused g c = exit _ _ _ c.from_residual.ensures.1 (refuses_memory within_nothing)

pub returns-in_err-compile_entries-clause-refused : goal.returns-in_err-compile_entries-clause-refused
returns-in_err-compile_entries-clause-refused g c =
    exit_with _ _ _ c.from_residual-in_err-compile_entries.ensures.1 (rw (← c.in_ok-location.ensures) c.in_err-compile_entries.ensures.refused)

pub returns-clause-built : goal.returns-clause-built
returns-clause-built g c = rw (← c.in_ok-location.ensures) c.in_ok-compile_entries.ensures.built
