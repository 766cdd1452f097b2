use Rattle.std.proofs.Common.{map}
use Rattle.serde_json.specs.View.{members_view}
use Rattle.olk_base.specs.Nodes.{subject_data}
use Rattle.olk_spec.specs.Schemas.{listed}
use Rattle.olk_reports.specs.Paths.{path_at}
use Rattle.olk_tree.specs.Additional.{sides_seen}
use Rattle.olk_errors.proofs.AdditionalMembers.{WalkingMembers}
use Rattle.olk_errors.proofs.additional_properties.walk_members.Given as goal

abbrev pub invariant-loop-name : goal.invariant-loop-name
invariant-loop-name g l = WalkingMembers g.R.RegexEngine.answers g.R.RegexEngine.costs g.N.Means.means g.N.Reports.first g.N.Reports.report (sides_seen l.sides) (subject_data l.object) l.location (path_at l.trail)
    (listed (members_view l.name-iterator)) (map (λ n. n.now) l.unexpected.items) l.initial.sink l.sink l.initial.ctx l.ctx
