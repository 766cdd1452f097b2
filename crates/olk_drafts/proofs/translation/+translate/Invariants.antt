use Rattle.std.proofs.Common.{◌≡◌, map, take}
use Rattle.serde_json.specs.Data.{no_members}
use Rattle.serde_json.specs.View.{view, members_view}
use Rattle.olk_drafts.specs.Sources.{reference_read}
use Rattle.olk_drafts.specs.Translated.{translated_members, translated_entries}
use Rattle.olk_drafts.proofs.Translations.{item_translated}
use Rattle.olk_drafts.proofs.translation.+translate.Given as goal

-- what is left, put to what is done, is what all comes to
abbrev pub invariant-translate_members-loop-name : goal.invariant-translate_members-loop-name
invariant-translate_members-loop-name l = record {
  so_far : translated_members l.source.draft (reference_read l.source) (members_view l.members.entries) (members_view l.name-iterator) (members_view l.translation.entries)
      ≡ translated_members l.source.draft (reference_read l.source) (members_view l.members.entries) (members_view l.members.entries) no_members;
  next : goal.iterator-translate_members-loop-name.can_next l.name-iterator;
  ends : goal.iterator-translate_members-loop-name.is_finite l.name-iterator;
}

abbrev pub invariant-translate_entries-loop-name : goal.invariant-translate_entries-loop-name
invariant-translate_entries-loop-name l = record {
  so_far : translated_entries l.source.draft (reference_read l.source) l.held (members_view l.name-iterator) (members_view l.translation.entries)
      ≡ translated_entries l.source.draft (reference_read l.source) l.held (members_view l.entries.entries) no_members;
  next : goal.iterator-translate_entries-loop-name.can_next l.name-iterator;
  ends : goal.iterator-translate_entries-loop-name.is_finite l.name-iterator;
}

abbrev pub invariant-translate_items-loop-value : goal.invariant-translate_items-loop-value
invariant-translate_items-loop-value l = map view l.translation.items
    ≡ map (item_translated l.source.draft (reference_read l.source) l.held) (take l.value-index l.value-items)
