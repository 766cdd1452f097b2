use Rattle.std.proofs.Common.{◌≡◌, ◌++◌, drop}
use Rattle.serde_json.specs.View.{members_view, items_view}
use Rattle.olk_drafts.specs.References.{as_texts, references_of_members, references_of_entries, references_of_items}
use Rattle.olk_drafts.proofs.references.+references.Given as goal

-- the texts so far, and those of what is left
abbrev pub invariant-append_of_members-loop-name : goal.invariant-append_of_members-loop-name
invariant-append_of_members-loop-name l = record {
  so_far : as_texts l.texts.items ++ references_of_members l.draft (members_view l.members.entries) (members_view l.name-iterator)
      ≡ as_texts l.fn.texts.items ++ references_of_members l.draft (members_view l.members.entries) (members_view l.members.entries);
  next : goal.iterator-append_of_members-loop-name.can_next l.name-iterator;
  ends : goal.iterator-append_of_members-loop-name.is_finite l.name-iterator;
}

abbrev pub invariant-append_of_entries-loop-value : goal.invariant-append_of_entries-loop-value
invariant-append_of_entries-loop-value l = record {
  so_far : as_texts l.texts.items ++ references_of_entries l.draft l.held (members_view l.value-iterator) ≡ as_texts l.fn.texts.items ++ references_of_entries l.draft l.held (members_view l.entries.entries);
  next : goal.iterator-append_of_entries-loop-value.can_next l.value-iterator;
  ends : goal.iterator-append_of_entries-loop-value.is_finite l.value-iterator;
}

abbrev pub invariant-append_of_items-loop-value : goal.invariant-append_of_items-loop-value
invariant-append_of_items-loop-value l = as_texts l.texts.items ++ references_of_items l.draft l.held (items_view (drop l.value-index l.value-items))
    ≡ as_texts l.fn.texts.items ++ references_of_items l.draft l.held (items_view l.items.items)
