use Rattle.std.proofs.Common.{◌∙◌, ap}
use Rattle.serde_json.specs.Data.{object, array, put}
use Rattle.serde_json.specs.View.{view, members_view, items_view}
use Rattle.serde_json.proofs.Views.{view-Object, view-Array}
use Rattle.olk_drafts.specs.Sources.{reference_read}
use Rattle.olk_drafts.specs.Keywords.{read_as}
use Rattle.olk_drafts.specs.Translated.{put_as, translated_value, translated_items}
use Rattle.olk_drafts.proofs.Values.{no_object, cloned}
use Rattle.olk_drafts.proofs.Translations.{nothing_held, entries_held, entries_of_entries_held, object_translated, no_object_translated, one_more_member, one_more_entry, no_more_members, no_more_entries, item_translated, items_translated, all_items}
use Rattle.olk_drafts.proofs.translation.+translate.Goals as goal

pub translate_schema-returns-in_ok-translate_members-in-Object : goal.translate_schema-returns-in_ok-translate_members-in-Object
translate_schema-returns-in_ok-translate_members-in-Object t c =
    rw (c.in-Object.is, view-Object, view-Object, object_translated) (ap object c.in_ok-translate_members-in-Object.ensures)

pub translate_inside-returns-in_ok-translate_entries-in-Object : goal.translate_inside-returns-in_ok-translate_entries-in-Object
translate_inside-returns-in_ok-translate_entries-in-Object t c = rw (c.in-Object.is, view-Object, view-Object) (ap object c.in_ok-translate_entries-in-Object.ensures)

pub translate_inside-returns-in_ok-translate_items-in-Array : goal.translate_inside-returns-in_ok-translate_items-in-Array
translate_inside-returns-in_ok-translate_items-in-Array t c = rw (c.in-Array.is, view-Array, view-Array) (ap array c.in_ok-translate_items-in-Array.ensures)

pub translate_at-returns-in-Nothing : goal.translate_at-returns-in-Nothing
translate_at-returns-in-Nothing t c = rw (c.in-Nothing.is, nothing_held) (cloned c.clone.result (view c.args.value.now) c.clone.ensures.cases)

pub translate_at-returns-in-Entries : goal.translate_at-returns-in-Entries
translate_at-returns-in-Entries t c = rw (c.in-Entries.is, entries_held) c.translate_inside.ensures

pub translate_at-returns-in-EntriesOfEntries : goal.translate_at-returns-in-EntriesOfEntries
translate_at-returns-in-EntriesOfEntries t c = rw (c.in-EntriesOfEntries.is, entries_of_entries_held) c.translate_inside-in-EntriesOfEntries.ensures

pub translate_schema-returns-in_default : goal.translate_schema-returns-in_default
translate_schema-returns-in_default t c = rw (no_object_translated c.args.source.now.draft (reference_read c.args.source.now) (view c.args.schema.now) (no_object _ c.in_default.not-Object))
    (cloned c.clone.result (view c.args.schema.now) c.clone.ensures.cases)

pub translate_members-loop-name-preserved : goal.translate_members-loop-name-preserved
translate_members-loop-name-preserved t c =
    let source = c.args.source.now in
    let all = members_view c.args.members.now.entries in
    let done = members_view c.loop-name.translation.entries in
    let value = translated_value source.draft (reference_read source) (view c.in-Some.value.now) in
    record {
      so_far = one_more_member source.draft (reference_read source) c.in-Some.ensures.steps all done
          (c.in_ok-put_translation.ensures ∙ ap (λ k. put_as k value done) (c.keyword-keyword.ensures ∙ ap (read_as source.draft all) c.as_str.ensures.value))
          ∙ c.loop-name.invariant.so_far;
      next = tt;
      ends = tt;
    }

pub translate_members-returns : goal.translate_members-returns
translate_members-returns t c =
    no_more_members c.args.source.now.draft (reference_read c.args.source.now) c.in-None.ensures.steps.0 (members_view c.args.members.now.entries) (members_view c.loop-name.translation.entries)
    ∙ c.loop-name.invariant.so_far

pub translate_entries-loop-name-preserved : goal.translate_entries-loop-name-preserved
translate_entries-loop-name-preserved t c =
    let source = c.args.source.now in
    let done = members_view c.loop-name.translation.entries in
    record {
      so_far = one_more_entry source.draft (reference_read source) c.in-Some.ensures.steps c.args.held done
          (c.in_ok-put.ensures.put ∙ (λ i. put (c.as_str.ensures.value i) (c.in_ok-value.ensures i) done))
          ∙ c.loop-name.invariant.so_far;
      next = tt;
      ends = tt;
    }

pub translate_entries-returns : goal.translate_entries-returns
translate_entries-returns t c =
    no_more_entries c.args.source.now.draft (reference_read c.args.source.now) c.in-None.ensures.steps.0 c.args.held (members_view c.loop-name.translation.entries)
    ∙ c.loop-name.invariant.so_far

pub translate_items-returns : goal.translate_items-returns
translate_items-returns t c =
    let source = c.args.source.now in
    let R = reference_read source in
    all_items (item_translated source.draft R c.args.held) c.loop-value.translation.items c.deref-value-items.result.now c.loop-value.value-index c.loop-value.invariant c.loop-value-test.false
    ∙ items_translated source.draft R c.args.held c.deref-value-items.result.now
    ∙ ap (λ vs. translated_items source.draft R c.args.held (items_view vs)) c.deref-value-items.ensures.value
