-- The answer for all is the answer for what is left.
use Rattle.std.proofs.Common.{◌≡◌, drop}
use Rattle.serde_json.specs.View.{items_view, members_view}
use Rattle.serde_json.specs.Written.{items_have_float, members_have_float}
use Rattle.object_logic.proofs.numbers.+numbers.Given as goal

abbrev pub invariant-items_hold_whole_numbers-loop-item : goal.invariant-items_hold_whole_numbers-loop-item
invariant-items_hold_whole_numbers-loop-item l = items_have_float (items_view (drop l.item-index l.item-items)) ≡ items_have_float (items_view l.items.items)

abbrev pub invariant-members_hold_whole_numbers-loop-member : goal.invariant-members_hold_whole_numbers-loop-member
invariant-members_hold_whole_numbers-loop-member l = members_have_float (members_view l.member-iterator) ≡ members_have_float (members_view l.members.entries)
