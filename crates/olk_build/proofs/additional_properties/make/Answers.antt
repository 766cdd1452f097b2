use Rattle.olk_meaning.specs.Plans.{planned}
use Rattle.olk_tree.specs.Steps.{layer}
use Rattle.olk_build.proofs.AdditionalProperties.{makes_restriction, is_additional_properties}
use Rattle.olk_build.proofs.additional_properties.make.Goals as goal

pub returns-clause-form : goal.returns-clause-form
returns-clause-form g c =
    is_additional_properties (layer g.K.Leaf g.R.RegexEngine) g.N.BuiltNode.answers c.in_ok-restriction.restriction c.args.place.now c.args.location c.args.rest c.args.beside
    (planned c.args.plan).fused_one c.in_ok-restriction.ensures

pub returns-clause-makes : goal.returns-clause-makes
returns-clause-makes g c I =
    makes_restriction I _ c.in_ok-restriction.restriction c.args.location c.args.place.now c.args.rest c.args.beside (planned c.args.plan) c.in_ok-restriction.ensures
