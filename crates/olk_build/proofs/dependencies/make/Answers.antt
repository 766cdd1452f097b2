use Rattle.olk_build.proofs.DependencyKeywords.{makes_dependencies, keys_of_dependencies}
use Rattle.olk_build.proofs.dependencies.make.Goals as goal

pub returns-clause-form : goal.returns-clause-form
returns-clause-form g c I = keys_of_dependencies I _ c.args.keys c.in_ok-nodes.nodes c.args.location c.args.lists c.args.schemas.items c.in_ok-nodes.ensures

pub returns-clause-makes : goal.returns-clause-makes
returns-clause-makes g c I = makes_dependencies I _ c.args.keys c.in_ok-nodes.nodes c.args.location c.args.lists c.args.schemas.items c.in_ok-nodes.ensures
