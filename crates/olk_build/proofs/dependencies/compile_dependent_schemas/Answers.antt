use Rattle.std.proofs.Common.{refl}
use Rattle.olk_build.proofs.dependencies.compile_dependent_schemas.Goals as goal

pub returns-clause-gives : goal.returns-clause-gives
returns-clause-gives g c = c.compile_keyword.ensures.gives

pub returns-clause-form : goal.returns-clause-form
returns-clause-form g c = c.compile_keyword.ensures.form

pub returns-clause-always : goal.returns-clause-always
returns-clause-always g c member = c.compile_keyword.ensures.some member refl
