use Rattle.std.proofs.Common.{subst}
use Rattle.olk_build.specs.Forms.{IsFormOfProperties}
use Rattle.olk_build.proofs.properties.form.Goals as goal

pub returns-in_default : goal.returns-in_default
returns-in_default g c = subst (λ t. IsFormOfProperties c.args.place.now c.args.location c.args.names c.args.nodes.items t c.alone.result) c.in_default.ensures (c.alone.ensures c.args.place.now)
