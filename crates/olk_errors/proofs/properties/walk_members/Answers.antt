use Rattle.serde_json.specs.View.{members_view}
use Rattle.olk_reports.specs.Paths.{path_at}
use Rattle.olk_tree.proofs.Walked.{walks_agree}
use Rattle.olk_errors.proofs.Members.{outcome_of_members}
use Rattle.olk_errors.proofs.Sinks.{walks_same}
use Rattle.olk_errors.proofs.properties.walk_members.Goals as goal

pub returns-then-len : goal.returns-then-len
returns-then-len g c = walks_same (λ u so. outcome_of_members g.N.Means.means g.N.Reports.first g.N.Reports.report u c.args.properties (path_at c.args.trail.now)
    (members_view c.args.members.now.entries) (walks_agree c.args.properties c.args.members.now.entries c.len-2.ensures.ordered c.len.ensures.ordered))
    c.walk_each_member.ensures
