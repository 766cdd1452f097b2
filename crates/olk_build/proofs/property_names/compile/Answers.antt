use Rattle.olk_build.proofs.property_names.compile.Goals as goal

pub returns-clause-gives : goal.returns-clause-gives
returns-clause-gives g c = c.compile_keyword.ensures.gives
