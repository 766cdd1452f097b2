use Rattle.olk_build.proofs.Makes.{makes_one_of}
use Rattle.olk_build.proofs.one_of.make.Goals as goal

pub returns-clause-makes : goal.returns-clause-makes
returns-clause-makes g c I = makes_one_of I _ c.form.result c.args.location c.args.nodes.items c.form.ensures
