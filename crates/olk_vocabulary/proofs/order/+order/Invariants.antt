use Rattle.std.proofs.Common.{◌≡◌, drop}
use Rattle.serde_json.specs.View.{items_view, members_view}
use Rattle.olk_vocabulary.specs.Order.{items_cmp, members_cmp}
use Rattle.olk_vocabulary.specs.Same.{same_items, same_members}
use Rattle.olk_vocabulary.proofs.order.+order.Given as goal

abbrev pub invariant-compare_items-loop-item : goal.invariant-compare_items-loop-item
invariant-compare_items-loop-item l = record {
  order : items_cmp (items_view l.one.items) (items_view l.other.items) ≡ items_cmp (items_view (drop l.item-index l.item-items)) (items_view l.others.rest.now);
  same : same_items (items_view l.one.items) (items_view l.other.items) ≡ same_items (items_view (drop l.item-index l.item-items)) (items_view l.others.rest.now);
}

abbrev pub invariant-compare_members-loop-name : goal.invariant-compare_members-loop-name
invariant-compare_members-loop-name l = record {
  can : (goal.iterator-compare_members-loop-name).can_next l.name-iterator;
  ends : (goal.iterator-compare_members-loop-name).is_finite l.name-iterator;
  order : members_cmp (members_view l.one.entries) (members_view l.other.entries) ≡ members_cmp (members_view l.name-iterator) (members_view l.others);
  same : same_members (members_view l.one.entries) (members_view l.other.entries) ≡ same_members (members_view l.name-iterator) (members_view l.others);
}
