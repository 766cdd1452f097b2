use Rattle.olk_build.proofs.Makes.{makes_not}
use Rattle.olk_build.proofs.not.make.Goals as goal

pub returns-clause-makes : goal.returns-clause-makes
returns-clause-makes g c I = makes_not I _ c.args.original c.args.location c.in-Some.node c.pop.new.self.items c.args.nodes.items c.in-Some.ensures.items
