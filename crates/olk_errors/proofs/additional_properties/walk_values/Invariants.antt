use Rattle.serde_json.specs.View.{members_view}
use Rattle.olk_base.specs.Nodes.{subject_data}
use Rattle.olk_spec.specs.Names.{◌//◌}
use Rattle.olk_spec.specs.Schemas.{listed, members}
use Rattle.olk_reports.specs.Paths.{path_at}
use Rattle.olk_errors.proofs.Loops.{Walking}
use Rattle.olk_errors.proofs.additional_properties.walk_values.Given as goal

abbrev pub invariant-loop-name : goal.invariant-loop-name
invariant-loop-name g l = Walking (λ x. g.N.Means.means l.subschema x.1) (λ u x. g.N.Reports.first l.subschema u x.1 (path_at l.trail // x.0))
    (λ u x. g.N.Reports.report l.subschema u x.1 (path_at l.trail // x.0)) (members (subject_data l.node)) (listed (members_view l.name-iterator)) l.initial.sink l.sink l.initial.ctx l.ctx
