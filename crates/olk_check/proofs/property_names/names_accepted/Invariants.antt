use Rattle.serde_json.specs.Data.{string}
use Rattle.serde_json.specs.View.{members_view}
use Rattle.olk_spec.specs.Schemas.{listed}
use Rattle.olk_check.proofs.Walks.{AllLeft}
use Rattle.olk_check.proofs.property_names.names_accepted.Given as goal

abbrev pub invariant-loop-name : goal.invariant-loop-name
invariant-loop-name g l = AllLeft (λ m. g.N.Means.means l.subschema (string m.0)) (listed (members_view l.members.entries)) (listed (members_view l.name-iterator)) l.initial.ctx l.ctx
