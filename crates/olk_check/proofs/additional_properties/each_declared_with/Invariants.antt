use Rattle.std.proofs.Common.{None}
use Rattle.serde_json.specs.View.{members_view}
use Rattle.olk_spec.specs.Names.{lookup_name}
use Rattle.olk_spec.specs.Schemas.{listed}
use Rattle.olk_check.specs.Unpatterned.{declared_or_rest, held_means}
use Rattle.olk_check.proofs.Deferred.{LeftAndHeld}
use Rattle.olk_check.proofs.Present.{Sought}
use Rattle.olk_check.proofs.additional_properties.each_declared_with.Given as goal

abbrev pub invariant-loop-name : goal.invariant-loop-name
invariant-loop-name g l =
    LeftAndHeld (λ x. declared_or_rest g.N.Means.means None x.1 (lookup_name x.0
    l.properties)) (held_means g.N.Means.means)
    (listed (members_view l.members.entries)) (listed (members_view l.name-iterator)) l.held.items l.initial.ctx l.ctx
    × Sought l.required (listed (members_view l.members.entries)) (listed (members_view l.name-iterator)) l.met
