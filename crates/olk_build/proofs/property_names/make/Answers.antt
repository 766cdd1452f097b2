use Rattle.std.proofs.Common.{refl}
use Rattle.olk_build.proofs.Makes.{makes_property_names}
use Rattle.olk_build.proofs.property_names.make.Goals as goal

pub returns-clause-form : goal.returns-clause-form
returns-clause-form g c = refl

pub returns-clause-makes : goal.returns-clause-makes
returns-clause-makes g c I = makes_property_names I _ c.in-Some.node c.args.location c.pop.new.self.items c.args.nodes.items c.in-Some.ensures.items
