use Rattle.olk_build.proofs.DependencyKeywords.{makes_dependent_required, keys_of_dependent_required}
use Rattle.olk_build.proofs.dependencies.make_required.Goals as goal

pub returns-clause-form : goal.returns-clause-form
returns-clause-form g c I = keys_of_dependent_required I _ c.args.keys c.in_ok-nodes.nodes c.args.location c.args.lists c.in_ok-nodes.ensures

pub returns-clause-makes : goal.returns-clause-makes
returns-clause-makes g c I = makes_dependent_required I _ c.args.keys c.in_ok-nodes.nodes c.args.location c.args.lists c.in_ok-nodes.ensures
