use Rattle.olk_build.proofs.PropertyDependencies.{makes_property_dependencies, keys_of_property_dependencies}
use Rattle.olk_build.proofs.property_dependencies.make.Goals as goal

pub returns-clause-form : goal.returns-clause-form
returns-clause-form g c I = keys_of_property_dependencies I _ c.args.keys c.in_ok-maps.maps c.args.texts c.args.nodes.items c.args.location c.in_ok-maps.ensures

pub returns-clause-makes : goal.returns-clause-makes
returns-clause-makes g c I = makes_property_dependencies I _ c.args.keys c.in_ok-maps.maps c.args.texts c.args.nodes.items c.args.location c.in_ok-maps.ensures
