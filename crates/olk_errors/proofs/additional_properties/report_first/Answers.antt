use Rattle.std.proofs.Common.{ap, ◌∙◌}
use Rattle.serde_json.specs.View.{members_view}
use Rattle.olk_base.specs.Nodes.{subject_data}
use Rattle.olk_spec.specs.Schemas.{listed}
use Rattle.olk_reports.specs.Paths.{path_at}
use Rattle.olk_reports.proofs.Errors.{kind_of_false_schema}
use Rattle.olk_tree.proofs.Due.{no_name_next}
use Rattle.olk_tree.proofs.Members_met.{no_members}
use Rattle.olk_errors.proofs.AdditionalHeld.{first_own, none_told, members_of_walk}
use Rattle.olk_errors.proofs.Own.{ends_own}
use Rattle.olk_errors.proofs.Sinks.{ends_past}
use Rattle.olk_errors.proofs.additional_properties.report_first.Goals as goal

pub returns-in_default : goal.returns-in_default
returns-in_default c = ends_past (none_told (subject_data c.args.node) c.args.location.now (path_at c.args.trail.now) (no_members (subject_data c.args.node) c.in_default.ensures))

pub returns-in-Some-next : goal.returns-in-Some-next
returns-in-Some-next c = ends_own (first_own (subject_data c.args.node) c.args.location.now (path_at c.args.trail.now)
    (members_of_walk (subject_data c.args.node) c.in-Some.ensures c.iter.ensures.rest ∙ ap (λ es. listed (members_view es)) c.in-Some-next.ensures.steps)
    kind_of_false_schema c.as_str.ensures) c.report.ensures

pub returns-in-None : goal.returns-in-None
returns-in-None c = ends_past (none_told (subject_data c.args.node) c.args.location.now (path_at c.args.trail.now)
    (members_of_walk (subject_data c.args.node) c.in-Some.ensures c.iter.ensures.rest ∙ no_name_next c.in-None.ensures.steps.0))
