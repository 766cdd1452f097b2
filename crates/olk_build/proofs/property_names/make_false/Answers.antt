use Rattle.olk_build.proofs.Makes.{makes_no_names}
use Rattle.olk_build.proofs.property_names.make_false.Goals as goal

pub returns-clause-makes : goal.returns-clause-makes
returns-clause-makes g c I = makes_no_names I _ c.args.location
