use Rattle.olk_evaluate.proofs.Shows.{shows_weaker}
use Rattle.olk_evaluate.proofs.additional_properties.AdditionalPropertiesShow.show.Goals as goal

pub returns : goal.returns
returns g c = shows_weaker c.show_sides.ensures (λ u so _ shown. shown c.args.self.now.location)
