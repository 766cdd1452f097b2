use Rattle.std.proofs.Common.{◌++◌, ◌+◌, drop, string_bytes, option_map, ◌∙◌, ap}
use Rattle.serde_json.specs.View.{view, members_view, items_view}
use Rattle.serde_json.proofs.Views.{view-Object, view-Array}
use Rattle.olk_drafts.specs.Keywords.{read_as}
use Rattle.olk_drafts.specs.References.{as_texts, references_by, references_at, references_of_members, references_of_entries, references_of_items, references_of_value}
use Rattle.olk_drafts.proofs.Values.{no_object, no_array}
use Rattle.olk_drafts.proofs.Referring.{none_appended, one_more, all_appended, none_held, entries_referring, entries_of_entries_referring, object_referring, no_object_referring, none_inside, member_left, entry_left, no_member_left, no_entry_left, item_left, no_item_left}
use Rattle.olk_drafts.proofs.references.+references.Goals as goal

pub append_references-returns-in-Nothing : goal.append_references-returns-in-Nothing
append_references-returns-in-Nothing t c = rw c.in-Nothing.is (none_appended c.args.texts.now.items (none_held c.args.draft (view c.args.value.now)))

pub append_references-returns-in-Entries : goal.append_references-returns-in-Entries
append_references-returns-in-Entries t c = rw (c.in-Entries.is, entries_referring) c.append_inside.ensures

pub append_references-returns-in-EntriesOfEntries : goal.append_references-returns-in-EntriesOfEntries
append_references-returns-in-EntriesOfEntries t c = rw (c.in-EntriesOfEntries.is, entries_of_entries_referring) c.append_inside-in-EntriesOfEntries.ensures

pub append_of_schema-returns-in-Object : goal.append_of_schema-returns-in-Object
append_of_schema-returns-in-Object t c = rw (c.in-Object.is, view-Object, object_referring) c.append_of_members.ensures

pub append_of_schema-returns-in_default : goal.append_of_schema-returns-in_default
append_of_schema-returns-in_default t c = none_appended c.args.texts.now.items (no_object_referring c.args.draft (view c.args.schema.now) (no_object _ c.in_default.not-Object))

pub append_inside-returns-in-Object : goal.append_inside-returns-in-Object
append_inside-returns-in-Object t c = rw (c.in-Object.is, view-Object) c.append_of_entries.ensures

pub append_inside-returns-in-Array : goal.append_inside-returns-in-Array
append_inside-returns-in-Array t c = rw (c.in-Array.is, view-Array) c.append_of_items.ensures

pub append_inside-returns-in_default : goal.append_inside-returns-in_default
append_inside-returns-in_default t c =
    none_appended c.args.texts.now.items (none_inside c.args.draft c.args.held (view c.args.value.now) (no_object _ c.in_default.not-Object) (no_array _ c.in_default.not-Array))

pub append_of_members-loop-name-init : goal.append_of_members-loop-name-init
append_of_members-loop-name-init t c = record {
  so_far = ap (λ l. as_texts c.args.texts.now.items ++ references_of_members c.args.draft (members_view c.args.members.now.entries) (members_view l)) c.into_iter-name-iterator.ensures.into_iter_gives.0;
  next = tt;
  ends = tt;
}

pub append_of_members-loop-name-preserved : goal.append_of_members-loop-name-preserved
append_of_members-loop-name-preserved t c =
    let all = members_view c.args.members.now.entries in
    let texts = references_of_value c.args.draft (view c.in-Some.value.now) in
    record {
      so_far = one_more (as_texts c.loop-name.texts.items)
          (references_by (read_as c.args.draft all (string_bytes c.in-Some.name.now)) texts)
          (references_of_members c.args.draft all (members_view c.next.new.self))
          (c.in_ok-append_of_member.ensures ∙ ap (λ k. as_texts c.loop-name.texts.items ++ references_by k texts) (c.keyword-keyword.ensures ∙ ap (read_as c.args.draft all) c.as_str.ensures.value))
          (member_left c.args.draft c.in-Some.ensures.steps all)
          c.loop-name.invariant.so_far;
      next = tt;
      ends = tt;
    }

pub append_of_members-returns : goal.append_of_members-returns
append_of_members-returns t c = all_appended (as_texts c.loop-name.texts.items) (no_member_left c.args.draft c.in-None.ensures.steps.0 (members_view c.args.members.now.entries)) c.loop-name.invariant.so_far

pub append_of_entries-loop-value-init : goal.append_of_entries-loop-value-init
append_of_entries-loop-value-init t c = record {
  so_far = ap (λ l. as_texts c.args.texts.now.items ++ references_of_entries c.args.draft c.args.held (members_view l)) c.into_iter-value-iterator.ensures.into_iter_gives.0;
  next = tt;
  ends = tt;
}

pub append_of_entries-loop-value-preserved : goal.append_of_entries-loop-value-preserved
append_of_entries-loop-value-preserved t c = record {
  so_far = one_more (as_texts c.loop-value.texts.items)
      (references_at c.args.draft c.args.held (view c.in-Some.value.now))
      (references_of_entries c.args.draft c.args.held (members_view c.next.new.self))
      c.in_ok-append_references.ensures
      (entry_left c.args.draft c.in-Some.ensures.steps c.args.held)
      c.loop-value.invariant.so_far;
  next = tt;
  ends = tt;
}

pub append_of_entries-returns : goal.append_of_entries-returns
append_of_entries-returns t c = all_appended (as_texts c.loop-value.texts.items) (no_entry_left c.args.draft c.in-None.ensures.steps.0 c.args.held) c.loop-value.invariant.so_far

pub append_of_items-loop-value-init : goal.append_of_items-loop-value-init
append_of_items-loop-value-init t c = ap (λ vs. as_texts c.args.texts.now.items ++ references_of_items c.args.draft c.args.held (items_view vs)) c.deref-value-items.ensures.value

pub append_of_items-loop-value-preserved : goal.append_of_items-loop-value-preserved
append_of_items-loop-value-preserved t c =
    let vs = c.deref-value-items.result.now in
    let i = c.loop-value.value-index in
    one_more (as_texts c.loop-value.texts.items)
    (references_at c.args.draft c.args.held (view c.value-item.result))
    (references_of_items c.args.draft c.args.held (items_view (drop (i + 1) vs)))
    c.in_ok-append_references.ensures
    (item_left c.args.draft c.args.held i vs c.loop-value-test.true c.value-item.is)
    c.loop-value.invariant

pub append_of_items-returns : goal.append_of_items-returns
append_of_items-returns t c = all_appended (as_texts c.loop-value.texts.items) (no_item_left c.args.draft c.args.held c.loop-value.value-index c.deref-value-items.result.now c.loop-value-test.false) c.loop-value.invariant

pub append_of_member-returns-in-None : goal.append_of_member-returns-in-None
append_of_member-returns-in-None t c =
    none_appended c.args.texts.now.items (ap (λ o. references_by (option_map (λ k. k.now) o) (references_of_value c.args.draft (view c.args.value.now))) c.in-None.is)
