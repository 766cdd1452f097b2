use Rattle.olk_build.proofs.properties.compile.Goals as goal

pub returns-clause-gives : goal.returns-clause-gives
returns-clause-gives g c = c.compile_keyword.ensures.gives

pub returns-clause-form : goal.returns-clause-form
returns-clause-form g c = c.compile_keyword.ensures.form
