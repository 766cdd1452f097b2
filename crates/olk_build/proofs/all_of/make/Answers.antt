use Rattle.olk_build.proofs.Makes.{makes_all_of}
use Rattle.olk_build.proofs.all_of.make.Goals as goal

pub returns-clause-makes : goal.returns-clause-makes
returns-clause-makes g c I = makes_all_of I _ c.form.result c.args.location c.args.nodes.items c.form.ensures
