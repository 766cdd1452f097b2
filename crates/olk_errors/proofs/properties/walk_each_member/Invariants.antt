use Rattle.serde_json.specs.View.{members_view}
use Rattle.olk_spec.specs.Schemas.{listed}
use Rattle.olk_reports.specs.Paths.{path_at}
use Rattle.olk_errors.proofs.Members.{WalkingDeclared}
use Rattle.olk_errors.proofs.properties.walk_each_member.Given as goal

abbrev pub invariant-loop-name : goal.invariant-loop-name
invariant-loop-name g l = WalkingDeclared g.N.Means.means g.N.Reports.first g.N.Reports.report (path_at l.trail)
    l.properties
    (listed (members_view l.members.entries)) (listed (members_view l.name-iterator)) l.initial.sink l.sink l.initial.ctx l.ctx
