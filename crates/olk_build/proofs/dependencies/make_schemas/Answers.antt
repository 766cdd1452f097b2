use Rattle.olk_build.proofs.DependencyKeywords.{makes_dependent_schemas, keys_of_dependent_schemas}
use Rattle.olk_build.proofs.dependencies.make_schemas.Goals as goal

pub returns-clause-form : goal.returns-clause-form
returns-clause-form g c I = keys_of_dependent_schemas I _ c.args.keys c.args.nodes c.args.location

pub returns-clause-makes : goal.returns-clause-makes
returns-clause-makes g c I = makes_dependent_schemas I _ c.args.keys c.args.nodes c.args.location
