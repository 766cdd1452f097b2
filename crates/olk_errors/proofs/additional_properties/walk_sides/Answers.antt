use Rattle.olk_base.specs.Nodes.{subject_data}
use Rattle.olk_reports.specs.Paths.{path_at}
use Rattle.olk_tree.specs.Additional.{sides_seen}
use Rattle.olk_check.proofs.Asked.{only_same}
use Rattle.olk_errors.proofs.AdditionalMembers.{other_unasked}
use Rattle.olk_errors.proofs.Sinks.{walks_past}
use Rattle.olk_errors.proofs.additional_properties.walk_sides.Goals as goal

pub returns-in-None : goal.returns-in-None
returns-in-None g c = walks_past (only_same c.args.ctx.now)
    (λ u so. other_unasked g.R.RegexEngine.answers g.R.RegexEngine.costs g.N.Means.means g.N.Reports.first g.N.Reports.report (sides_seen c.args.sides) (subject_data c.args.node)
    c.args.location.now (path_at c.args.trail.now) u c.in-None.ensures)
