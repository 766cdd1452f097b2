use Rattle.serde_json.specs.Data.{string}
use Rattle.serde_json.specs.View.{members_view}
use Rattle.olk_base.specs.Nodes.{subject_data}
use Rattle.olk_reports.specs.Paths.{path_at}
use Rattle.olk_spec.specs.Schemas.{listed}
use Rattle.olk_errors.specs.Outcomes.{of_asked_name}
use Rattle.olk_errors.proofs.Loops.{Walking}
use Rattle.olk_errors.proofs.property_names.walk_names.Given as goal

abbrev pub invariant-loop-name : goal.invariant-loop-name
invariant-loop-name g l = Walking (λ x. g.N.Means.means l.subschema (string x.0))
    (λ u x. (of_asked_name g.N.Means.means g.N.Reports.first g.N.Reports.report u l.subschema (subject_data l.object) x.0 (path_at l.trail)).first)
    (λ u x. (of_asked_name g.N.Means.means g.N.Reports.first g.N.Reports.report u l.subschema (subject_data l.object) x.0 (path_at l.trail)).all)
    (listed (members_view l.members.entries)) (listed (members_view l.name-iterator)) l.initial.sink l.sink l.initial.ctx l.ctx
