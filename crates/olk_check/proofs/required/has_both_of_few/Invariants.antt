use Rattle.std.proofs.Common.{◌≡◌, ◌&&◌, false}
use Rattle.serde_json.specs.View.{members_view}
use Rattle.olk_spec.specs.Schemas.{listed}
use Rattle.olk_check.proofs.Present.{Sought}
use Rattle.olk_check.proofs.required.has_both_of_few.Given as goal

abbrev pub invariant-loop-key : goal.invariant-loop-key
invariant-loop-key l =
    Sought l.first (listed (members_view l.members.entries)) (listed (members_view l.key-iterator)) l.has_first
    × Sought l.second (listed (members_view l.members.entries)) (listed (members_view l.key-iterator)) l.has_second
    × ((l.has_first && l.has_second) ≡ false)
