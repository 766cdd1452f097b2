use Rattle.std.proofs.Common.{true}
use Rattle.olk_spec.specs.World.{unmatched}
use Rattle.olk_base.specs.Nodes.{subject_data}
use Rattle.olk_evaluate.specs.declared.sides.Beside.TheVariants as beside
use Rattle.olk_evaluate.proofs.Additional.{shows_lent}
use Rattle.olk_evaluate.proofs.additional_properties.AdditionalPropertiesNotEmptyFalseWithRequired1Show.show.Goals as goal

pub returns : goal.returns
returns g c = shows_lent (λ e n. unmatched) (λ e. true) g.N.Show.tree g.N.Means.means (beside.PropertiesWithRequired1 (record { ref_ptr = c.args.self.ref_ptr; now = c.args.self.now.required }) (record { ref_ptr = c.args.self.ref_ptr; now = c.args.self.now.required_location })) (subject_data c.args.node) c.args.self.now.location c.show_sides.new.outcome c.sides.ensures c.show_sides.ensures
