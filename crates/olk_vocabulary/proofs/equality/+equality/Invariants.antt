use Rattle.std.proofs.Common.{◌≡◌, drop}
use Rattle.serde_json.specs.View.{items_view, members_view}
use Rattle.olk_vocabulary.specs.Same.{same_items, same_members}
use Rattle.olk_vocabulary.proofs.equality.+equality.Given as goal

abbrev pub invariant-items_are_same-loop-index : goal.invariant-items_are_same-loop-index
invariant-items_are_same-loop-index l = same_items (items_view l.one.items) (items_view l.other.items) ≡ same_items (items_view (drop l.index l.one.items)) (items_view (drop l.index l.other.items))

abbrev pub invariant-members_are_same-loop-name : goal.invariant-members_are_same-loop-name
invariant-members_are_same-loop-name l = record {
  can : (goal.iterator-members_are_same-loop-name).can_next l.name-iterator;
  ends : (goal.iterator-members_are_same-loop-name).is_finite l.name-iterator;
  left : same_members (members_view l.one.entries) (members_view l.other.entries) ≡ same_members (members_view l.name-iterator) (members_view l.others);
}
