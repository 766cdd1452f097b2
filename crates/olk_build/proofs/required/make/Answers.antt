use Rattle.std.proofs.Common.{rules}
use Rattle.olk_meaning.specs.Plans.{planned}
use Rattle.olk_build.proofs.Makes.{makes_required_elsewhere, makes_required_inside, makes_required_alone}
use Rattle.olk_build.proofs.required.make.Goals as goal

pub returns-then-fuses-clause-makes : goal.returns-then-fuses-clause-makes
returns-then-fuses-clause-makes g c P I = makes_required_elsewhere I _ c.args.required c.args.location P c.args.nodes.items (planned c.args.plan) (search rules)

pub returns-then-is_some-clause-makes : goal.returns-then-is_some-clause-makes
returns-then-is_some-clause-makes g c P I = makes_required_inside I _ c.args.required c.args.location P c.args.nodes.items (planned c.args.plan) (search rules)

pub returns-clause-makes : goal.returns-clause-makes
returns-clause-makes g c P I = makes_required_alone I _ c.args.required c.args.location P c.args.nodes.items (planned c.args.plan) (search rules) (search rules)
