use Rattle.std.proofs.Common.{◌++◌, map, sym, ◌∙◌, ap, append-nil}
use Rattle.serde_json.specs.View.{view, members_view}
use Rattle.serde_json.proofs.Views.{view-Object, view-Array}
use Rattle.olk_spec.specs.Schemas.{members, listed}
use Rattle.olk_spec.proofs.Maps.{items_list-view}
use Rattle.olk_build.specs.Building.{entries_read}
use Rattle.olk_build.proofs.Built.{at_an_entry, past_an_entry, none_is_read, no_object_no_members}
use Rattle.olk_document_spec.specs.Malformed.{references_read}
use Rattle.olk_document_build.specs.References.{schemas_of, inner_schemas, references_in, references_of_members, as_texts}
use Rattle.olk_document_build.proofs.ReadReferences.{no_references, none_so_far, nothing_more, some_more, all_so_far, no_member_so_far, one_more_member, inner_entries_left, next_item, no_item}
use Rattle.olk_document_build.proofs.references.+references.Goals as goal

pub references_at-returns-in-Entries-Object : goal.references_at-returns-in-Entries-Object
references_at-returns-in-Entries-Object t c = rw (c.in-Entries-Object.is-0, c.in-Entries-Object.is-1, view-Object) c.references_of_entries.ensures

pub references_at-returns-in-SchemaEntries-Object : goal.references_at-returns-in-SchemaEntries-Object
references_at-returns-in-SchemaEntries-Object t c =
    rw (c.in-SchemaEntries-Object.is-0, c.in-SchemaEntries-Object.is-1, view-Object) c.references_of_entries-in-SchemaEntries-Object.ensures

pub references_at-returns-in-InnerEntries-Object : goal.references_at-returns-in-InnerEntries-Object
references_at-returns-in-InnerEntries-Object t c =
    rw (c.in-InnerEntries-Object.is-0, c.in-InnerEntries-Object.is-1, view-Object) c.references_of_inner_entries.ensures

pub references_at-returns-in-Branches-Array : goal.references_at-returns-in-Branches-Array
references_at-returns-in-Branches-Array t c = rw (c.in-Branches-Array.is-0, c.in-Branches-Array.is-1, view-Array) c.references_of_items.ensures

pub references_of_entries-loop-schema-init : goal.references_of_entries-loop-schema-init
references_of_entries-loop-schema-init t c = record {
  so_far = none_so_far (λ W. ap (λ l. references_in W (schemas_of (entries_read c.args.passes_arrays (listed (members_view l))))) c.into_iter-schema-iterator.ensures.into_iter_gives.0);
  next = tt;
  ends = tt;
}

pub references_of_entries-loop-schema-preserved-in-Continue-1 : goal.references_of_entries-loop-schema-preserved-in-Continue-1
references_of_entries-loop-schema-preserved-in-Continue-1 t c = record {
  so_far = some_more c.loop-schema.invariant.so_far (λ W. references_read W (view c.in-Some.schema.now))
      (λ W. ap (λ es. references_in W (schemas_of es)) (at_an_entry c.in-Some.ensures.steps c.args.passes_arrays c.is_read.ensures c.if-is_read.true))
      c.in_ok-references_read.ensures;
  next = tt;
  ends = tt;
}

pub references_of_entries-loop-schema-preserved : goal.references_of_entries-loop-schema-preserved
references_of_entries-loop-schema-preserved t c = record {
  so_far = nothing_more c.loop-schema.invariant.so_far
      (λ W. ap (λ es. references_in W (schemas_of es)) (past_an_entry c.in-Some.ensures.steps c.args.passes_arrays c.is_read.ensures c.if-is_read.false));
  next = tt;
  ends = tt;
}

pub references_of_entries-returns : goal.references_of_entries-returns
references_of_entries-returns t c = all_so_far c.loop-schema.invariant.so_far (λ W. ap (λ es. references_in W (schemas_of es))
    (ap (λ l. entries_read c.args.passes_arrays (listed (members_view l))) c.in-None.ensures.steps.0 ∙ none_is_read c.args.passes_arrays))

pub references_of_inner_entries-loop-entry-init : goal.references_of_inner_entries-loop-entry-init
references_of_inner_entries-loop-entry-init t c = record {
  so_far = none_so_far (λ W. ap (λ l. references_in W (inner_schemas (listed (members_view l)))) c.into_iter-entry-iterator.ensures.into_iter_gives.0);
  next = tt;
  ends = tt;
}

pub references_of_inner_entries-loop-entry-preserved : goal.references_of_inner_entries-loop-entry-preserved
references_of_inner_entries-loop-entry-preserved t c = record {
  so_far = some_more c.loop-entry.invariant.so_far (λ W. references_in W (schemas_of (members (view c.in-Some.entry.now))))
      (inner_entries_left c.in-Some.ensures.steps) c.in_ok-references_at.ensures;
  next = tt;
  ends = tt;
}

pub references_of_inner_entries-returns : goal.references_of_inner_entries-returns
references_of_inner_entries-returns t c =
    all_so_far c.loop-entry.invariant.so_far (λ W. ap (λ l. references_in W (inner_schemas (listed (members_view l)))) c.in-None.ensures.steps.0)

pub references_of_items-loop-schema-init : goal.references_of_items-loop-schema-init
references_of_items-loop-schema-init t c =
    none_so_far (λ W. ap (references_in W) (ap (map view) c.deref-schema-items.ensures.value ∙ sym (items_list-view c.args.items.now.items)))

pub references_of_items-loop-schema-preserved : goal.references_of_items-loop-schema-preserved
references_of_items-loop-schema-preserved t c = some_more c.loop-schema.invariant (λ W. references_read W (view c.schema-item.result))
    (λ W. ap (references_in W) (next_item _ _ c.loop-schema-test.true c.schema-item.is)) c.in_ok-references_read.ensures

pub references_of_items-returns : goal.references_of_items-returns
references_of_items-returns t c = all_so_far c.loop-schema.invariant (λ W. ap (references_in W) (no_item _ _ c.loop-schema-test.false))

pub references_of_members-loop-name-init : goal.references_of_members-loop-name-init
references_of_members-loop-name-init t c = record { so_far = no_member_so_far c.into_iter-name-iterator.ensures.into_iter_gives.0; next = tt; ends = tt }

pub references_of_members-loop-name-preserved : goal.references_of_members-loop-name-preserved
references_of_members-loop-name-preserved t c = record {
  so_far = one_more_member (members_view c.args.members.now.entries) c.in-Some.ensures.steps c.loop-name.texts.items c.append_reference.new.texts.items c.references_at.new.texts.items
      c.loop-name.invariant.so_far c.as_str-name.ensures.value c.in_ok-append_reference.ensures c.places_read.ensures c.in_ok-references_at.ensures;
  next = tt;
  ends = tt;
}

pub references_of_members-returns : goal.references_of_members-returns
references_of_members-returns t c = all_so_far c.loop-name.invariant.so_far
    (λ W. ap (λ l. references_of_members W (members_view c.args.members.now.entries) (listed (members_view l))) c.in-None.ensures.steps.0)

pub references_read-returns-in-Object : goal.references_read-returns-in-Object
references_read-returns-in-Object t c = rw (c.in-Object.is, view-Object) c.references_of_members.ensures

pub references_read-returns-in_default : goal.references_read-returns-in_default
references_read-returns-in_default t c W = sym (append-nil _) ∙ ap (λ ts. as_texts c.args.texts.now.items ++ ts) (sym (no_references W _ (no_object_no_members _ c.in_default.not-Object)))
