use Rattle.olk_build.proofs.Makes.{makes_any_of}
use Rattle.olk_build.proofs.any_of.make.Goals as goal

pub returns-clause-makes : goal.returns-clause-makes
returns-clause-makes g c I = makes_any_of I _ c.form.result c.args.location c.args.nodes.items c.form.ensures
