use Rattle.std.proofs.Common.{refl}
use Rattle.olk_base.specs.Nodes.{subject_data}
use Rattle.olk_reports.specs.Paths.{path_at}
use Rattle.olk_tree.specs.Holdings.{not_empty_false_holds}
use Rattle.olk_errors.proofs.AdditionalHeld.{no_regex_answers, no_regex_costs, walks_sides}
use Rattle.olk_errors.proofs.additional_properties.AdditionalPropertiesNotEmptyFalseWalk.walk.Goals as goal

pub returns : goal.returns
returns g c = walks_sides no_regex_answers no_regex_costs g.N.Means.means g.N.Reports.first g.N.Reports.report (subject_data c.args.node) (path_at c.args.trail.now)
    (not_empty_false_holds c.args.self.now) c.sides-sides.ensures refl refl c.walk_sides.ensures
