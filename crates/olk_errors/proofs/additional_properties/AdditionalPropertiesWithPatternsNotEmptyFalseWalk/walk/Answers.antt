use Rattle.std.proofs.Common.{refl}
use Rattle.olk_base.specs.Nodes.{subject_data}
use Rattle.olk_reports.specs.Paths.{path_at}
use Rattle.olk_tree.specs.Holdings.{with_both_false_holds}
use Rattle.olk_errors.proofs.AdditionalHeld.{walks_sides}
use Rattle.olk_errors.proofs.additional_properties.AdditionalPropertiesWithPatternsNotEmptyFalseWalk.walk.Goals as goal

pub returns : goal.returns
returns g c = walks_sides g.R.RegexEngine.answers g.R.RegexEngine.costs g.N.Means.means g.N.Reports.first g.N.Reports.report (subject_data c.args.node) (path_at c.args.trail.now)
    (with_both_false_holds c.args.self.now) c.sides.ensures refl refl c.walk_sides.ensures
