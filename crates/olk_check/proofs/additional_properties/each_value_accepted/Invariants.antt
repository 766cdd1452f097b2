use Rattle.serde_json.specs.View.{members_view}
use Rattle.olk_spec.specs.Schemas.{listed}
use Rattle.olk_check.proofs.Walks.{AllLeft}
use Rattle.olk_check.proofs.additional_properties.each_value_accepted.Given as goal

abbrev pub invariant-loop-value : goal.invariant-loop-value
invariant-loop-value g l = AllLeft (λ x. g.N.Means.means l.subschema x.1) (listed (members_view l.members.entries)) (listed (members_view l.value-iterator)) l.initial.ctx l.ctx
