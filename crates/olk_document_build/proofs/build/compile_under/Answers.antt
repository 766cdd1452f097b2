use Rattle.olk_build.proofs.Spending.{refuses_memory, within_nothing}
use Rattle.olk_document_build.proofs.Leaving.{exit_by}
use Rattle.olk_document_build.proofs.build.compile_under.Goals as goal

pub returns-in_err-location-clause-refused : goal.returns-in_err-location-clause-refused
returns-in_err-location-clause-refused g c = exit_by _ _ _ c.from_residual.ensures.1 (λ F h. refuses_memory within_nothing)

pub returns-clause-refused : goal.returns-clause-refused
returns-clause-refused g c = rw (← c.in_ok-location.ensures) c.compile_at.ensures.refused

pub returns-clause-built : goal.returns-clause-built
returns-clause-built g c = rw (← c.in_ok-location.ensures) c.compile_at.ensures.built
