use Rattle.std.proofs.Common.{option_copied}
use Rattle.serde_json.specs.View.{members_view}
use Rattle.olk_spec.specs.Names.{lookup_name}
use Rattle.olk_spec.specs.Schemas.{listed}
use Rattle.olk_check.specs.Unpatterned.{declared_or_rest}
use Rattle.olk_check.proofs.Walks.{AllLeft}
use Rattle.olk_check.proofs.additional_properties.each_declared_or_rest.Given as goal

abbrev pub invariant-loop-name : goal.invariant-loop-name
invariant-loop-name g l =
    AllLeft (λ x. declared_or_rest g.N.Means.means (option_copied l.additional) x.1
    (lookup_name x.0 l.properties))
    (listed (members_view l.members.entries)) (listed (members_view l.name-iterator)) l.initial.ctx l.ctx
