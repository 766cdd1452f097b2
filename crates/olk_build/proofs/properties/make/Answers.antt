use Rattle.std.proofs.lemmas.Result.{IfOk-weaker}
use Rattle.olk_meaning.specs.Plans.{planned}
use Rattle.olk_build.proofs.Makes.{makes_properties}
use Rattle.olk_build.proofs.properties.make.Goals as goal

pub returns-clause-makes : goal.returns-clause-makes
returns-clause-makes g c = IfOk-weaker c.form.result _ _ (λ k form I. makes_properties I _ k c.args.names c.args.nodes.items c.args.location c.args.place.now
    (planned c.args.plan) form) c.form.ensures
