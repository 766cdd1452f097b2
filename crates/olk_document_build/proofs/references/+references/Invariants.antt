use Rattle.serde_json.specs.View.{members_view, items_view}
use Rattle.olk_spec.specs.Schemas.{listed}
use Rattle.olk_spec.specs.Malformed.{items_list}
use Rattle.olk_build.specs.Building.{entries_read}
use Rattle.olk_document_build.specs.References.{schemas_of, inner_schemas, references_in}
use Rattle.olk_document_build.proofs.ReadReferences.{AppendsSoFar, MembersSoFar, items_from}
use Rattle.olk_document_build.proofs.references.+references.Given as goal

-- the texts so far, and those of the entries, items and members that are left
abbrev pub invariant-references_of_entries-loop-schema : goal.invariant-references_of_entries-loop-schema
invariant-references_of_entries-loop-schema l = record {
  so_far : AppendsSoFar l.texts.items (λ W. references_in W (schemas_of (entries_read l.passes_arrays (listed (members_view l.schema-iterator)))))
      l.fn.texts.items (λ W. references_in W (schemas_of (entries_read l.passes_arrays (listed (members_view l.map.entries)))));
  next : goal.iterator-references_of_entries-loop-schema.can_next l.schema-iterator;
  ends : goal.iterator-references_of_entries-loop-schema.is_finite l.schema-iterator;
}

abbrev pub invariant-references_of_inner_entries-loop-entry : goal.invariant-references_of_inner_entries-loop-entry
invariant-references_of_inner_entries-loop-entry l = record {
  so_far : AppendsSoFar l.texts.items (λ W. references_in W (inner_schemas (listed (members_view l.entry-iterator))))
      l.fn.texts.items (λ W. references_in W (inner_schemas (listed (members_view l.map.entries))));
  next : goal.iterator-references_of_inner_entries-loop-entry.can_next l.entry-iterator;
  ends : goal.iterator-references_of_inner_entries-loop-entry.is_finite l.entry-iterator;
}

abbrev pub invariant-references_of_items-loop-schema : goal.invariant-references_of_items-loop-schema
invariant-references_of_items-loop-schema l =
    AppendsSoFar l.texts.items (λ W. references_in W (items_from l.schema-index l.schema-items)) l.fn.texts.items (λ W. references_in W (items_list (items_view l.items.items)))

abbrev pub invariant-references_of_members-loop-name : goal.invariant-references_of_members-loop-name
invariant-references_of_members-loop-name l = record {
  so_far : MembersSoFar (members_view l.members.entries) l.texts.items l.name-iterator l.fn.texts.items;
  next : goal.iterator-references_of_members-loop-name.can_next l.name-iterator;
  ends : goal.iterator-references_of_members-loop-name.is_finite l.name-iterator;
}
