use Rattle.olk_base.specs.Nodes.{subject_data}
use Rattle.olk_reports.specs.Paths.{path_at}
use Rattle.olk_errors.proofs.AdditionalHeld.{values_held}
use Rattle.olk_errors.proofs.Sinks.{walks_same}
use Rattle.olk_errors.proofs.additional_properties.AdditionalPropertiesWalk.walk.Goals as goal

pub returns : goal.returns
returns g c = walks_same (λ u so. values_held g.N.Means.means g.N.Reports.first g.N.Reports.report u c.args.self.now (subject_data c.args.node) (path_at c.args.trail.now))
    c.walk_values.ensures
