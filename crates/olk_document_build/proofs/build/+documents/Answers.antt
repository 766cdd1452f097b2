use Rattle.std.proofs.Common.{falls, rules, true, false, inl, inr, map, refl, sym, ap, ◌∙◌, Some, None, arith, [], ◌∷◌, ◌++◌, append_assoc}
use Rattle.serde_json.specs.View.{view, members_view}
use Rattle.serde_json.specs.declared.value.Value.{the_lemmas as value_lemmas}
use Rattle.serde_json.proofs.Views.{view-Object, view-Array}
use Rattle.olk_spec.specs.Schemas.{listed, numbered}
use Rattle.olk_spec.proofs.Maps.{items_list-view}
use Rattle.olk_base.specs.Kit.{kit}
use Rattle.olk_reports.proofs.Errors.{kind_of_multiple_types}
use Rattle.olk_meaning.specs.Conditions.{known}
use Rattle.olk_meaning.proofs.Facts.{no_schema_is}
use Rattle.olk_meaning.proofs.Fused.{member_lookup}
use Rattle.olk_build.specs.Building.{IsBuilt, PlacesAreBuilt, entries_read}
use Rattle.olk_build.specs.Refusing.{Refuses}
use Rattle.olk_build.specs.declared.shape.ReadPlaces.TheVariants.{Nothing, Entries, SchemaEntries, InnerEntries, Branches}
use Rattle.olk_build.proofs.Built.{at_an_entry, entry_refused, inner_refused, itself_is_built, next_branch, no_array_no_items, no_branch, no_object_no_members, none_are_built, none_is_read, one_more_entry, one_more_inner, past_an_entry, size_among}
use Rattle.olk_build.proofs.Parts.{part_is_built, refuses_part_inside, refuses_part_own}
use Rattle.olk_build.proofs.ReadEntries.{below, listed_alike}
use Rattle.olk_build.proofs.Spending.{all_so_far, exit_with, memory_past, memory_so_far, none_so_far, refuses_memory, within_exactly, within_nothing, exit}
use Rattle.olk_build.proofs.TakenParts.{both_taken, first_taken_refused, neighbour_built, neighbour_refused, no_neighbour, second_taken_refused, takes_nothing, taking_memory}
use Rattle.olk_document_meaning.specs.Layers.{layer_members}
use Rattle.olk_document_meaning.proofs.Plans.{found_in_layer, same_known}
use Rattle.olk_document_build.specs.Kits.{document}
use Rattle.olk_document_build.proofs.Leaving.{IfErr-weaker_by, IfOk-weaker_by, exit_by}
use Rattle.olk_document_build.proofs.NoObjects.{no_schema_refused, truth_built}
use Rattle.olk_document_build.proofs.build.+documents.Goals as goal
use Rattle.olk_document_build.proofs.Made.{own_refused, own_memory, prefix_items_built, items_built, contains_built, reference_built, bound_built}
use Rattle.olk_document_build.specs.declared.own.OwnShape.TheVariants as shape
use Rattle.serde_json.proofs.value.Value.TheLaws.{the_size}
use Rattle.olk_documents.specs.declared.node.DocumentNode.{the_lemmas as node_lemmas}
use Rattle.olk_document_build.proofs.Object.{next_entry, nothing_so_far, nothing_refused, object_memory, document_is_built, object_value_refused, object_own_refused, object_own_memory, one_more_own, one_more_taken, object_part_refused, object_taken_refused, object_taking_memory, one_more_taking, object_alone_memory, one_more_alone}

pub compile_place-returns-in-Bool-true-clause-built : goal.compile_place-returns-in-Bool-true-clause-built
compile_place-returns-in-Bool-true-clause-built g t c F h =
    truth_built (kit g.L.Leaf.Leaf g.M.Engine.RegexEngine) F c.tick_compiled.ensures true c.new.ensures (ap view c.in-Bool-true.is ∙ search (rules, value_lemmas))

pub compile_place-returns-in-Bool-false-clause-built : goal.compile_place-returns-in-Bool-false-clause-built
compile_place-returns-in-Bool-false-clause-built g t c F h =
    truth_built (kit g.L.Leaf.Leaf g.M.Engine.RegexEngine) F c.tick_compiled.ensures false c.new-in-Bool-false.ensures (ap view c.in-Bool-false.is ∙ search (rules, value_lemmas))

pub compile_place-returns-in-Object-clause-built : goal.compile_place-returns-in-Object-clause-built
compile_place-returns-in-Object-clause-built g t c = rw (c.in-Object.is, view-Object) (IfOk-weaker_by _ _ (λ F n. IsBuilt _ _ n _ _ _ _) c.compile_object.ensures.built (λ F h n built. built _ c.tick_compiled.ensures))

pub compile_place-returns-in-Object-clause-refused : goal.compile_place-returns-in-Object-clause-refused
compile_place-returns-in-Object-clause-refused g t c = rw (c.in-Object.is, view-Object) (IfErr-weaker_by _ _ (λ F e. Refuses _ _ _ _ e) c.compile_object.ensures.refused (λ F h e refused. refused _ c.tick_compiled.ensures))

pub compile_place-returns-clause-built : goal.compile_place-returns-clause-built
compile_place-returns-clause-built g t c = tt

pub compile_place-returns-clause-refused : goal.compile_place-returns-clause-refused
compile_place-returns-clause-refused g t c F h = no_schema_refused (kit g.L.Leaf.Leaf g.M.Engine.RegexEngine) F _ _ (no_schema_is _ (elim c.in-Null.is [
  | inl h ↦ rw h (search (rules, value_lemmas))
  | inr h ↦ elim h [
    | inl i ↦ rw i.1 (search (rules, value_lemmas))
    | inr i ↦ elim i [
      | inl j ↦ rw j.1 (search (rules, value_lemmas))
      | inr j ↦ rw j.1 (search (rules, value_lemmas))
    ]
  ]
])) c.tick_compiled.ensures (rw kind_of_multiple_types at c.refuse.ensures)

pub compile_places-returns-in_err-place-in-Itself-clause-refused : goal.compile_places-returns-in_err-place-in-Itself-clause-refused
compile_places-returns-in_err-place-in-Itself-clause-refused g t c = exit_by _ _ _ c.from_residual.ensures.1 (λ F h. refuses_memory within_nothing)

pub compile_places-returns-in_err-node-in-Itself-clause-refused : goal.compile_places-returns-in_err-node-in-Itself-clause-refused
compile_places-returns-in_err-node-in-Itself-clause-refused g t c =
    exit_with _ _ _ c.from_residual-in_err-node-in-Itself.ensures.1 (rw (c.in-Itself.is, ← c.in_ok-place-in-Itself.ensures) c.in_err-node-in-Itself.ensures.refused)

pub compile_places-returns-in_err-one-in-Itself-clause-refused : goal.compile_places-returns-in_err-one-in-Itself-clause-refused
compile_places-returns-in_err-one-in-Itself-clause-refused g t c = exit_with _ _ _ c.from_residual-in_err-one-in-Itself.ensures.1
    (rw c.in-Itself.is (λ F h. refuses_memory (within_exactly (c.in_ok-node-in-Itself.ensures.built F h).spends) _ refl))

pub compile_places-returns-in_default : goal.compile_places-returns-in_default
compile_places-returns-in_default g t c =
    record { built = rw (c.in-Entries.is, c.new-in_default.ensures.items) (λ F h. none_are_built Entries (no_object_no_members _ c.in_default.not-Object)); refused = tt }

pub compile_places-returns-in_default-value : goal.compile_places-returns-in_default-value
compile_places-returns-in_default-value g t c =
    record { built = rw (c.in-SchemaEntries.is, c.new-in_default-value.ensures.items) (λ F h. none_are_built SchemaEntries (no_object_no_members _ c.in_default-value.not-Object)); refused = tt }

pub compile_places-returns-in_default-value-2 : goal.compile_places-returns-in_default-value-2
compile_places-returns-in_default-value-2 g t c =
    record { built = rw (c.in-InnerEntries.is, c.new-in_default-value-2.ensures.items) (λ F h. none_are_built InnerEntries (no_object_no_members _ c.in_default-value-2.not-Object)); refused = tt }

pub compile_places-returns-in_default-value-3 : goal.compile_places-returns-in_default-value-3
compile_places-returns-in_default-value-3 g t c =
    record { built = rw (c.in-Branches.is, c.new-in_default-value-3.ensures.items) (λ F h. none_are_built Branches (no_array_no_items _ c.in_default-value-3.not-Array)); refused = tt }

pub compile_places-returns-in-Nothing-clause-built : goal.compile_places-returns-in-Nothing-clause-built
compile_places-returns-in-Nothing-clause-built g t c = rw (c.in-Nothing.is, c.new.ensures.items) (λ F h. none_are_built Nothing tt)

pub compile_places-returns-in_ok-one-in-Itself-clause-built : goal.compile_places-returns-in_ok-one-in-Itself-clause-built
compile_places-returns-in_ok-one-in-Itself-clause-built g t c =
    rw (c.in-Itself.is, c.in_ok-one-in-Itself.ensures, ← c.in_ok-place-in-Itself.ensures) (λ F h. itself_is_built (c.in_ok-node-in-Itself.ensures.built F h))

pub compile_places-returns-in-Object-clause-built : goal.compile_places-returns-in-Object-clause-built
compile_places-returns-in-Object-clause-built g t c = rw (c.in-Entries.is, c.in-Object.is, view-Object) (IfOk-weaker_by _ _
    (λ F ns. PlacesAreBuilt _ _ Entries ns.items _ _ _ _) c.compile_entries.ensures.built (λ F h ns b. record { stand = b.stand; clean = b.clean; spends = b.spends }))

pub compile_places-returns-in-Object-clause-refused : goal.compile_places-returns-in-Object-clause-refused
compile_places-returns-in-Object-clause-refused g t c = rw (c.in-Entries.is, c.in-Object.is, view-Object) c.compile_entries.ensures.refused

pub compile_places-returns-in-Object-value-clause-built : goal.compile_places-returns-in-Object-value-clause-built
compile_places-returns-in-Object-value-clause-built g t c = rw (c.in-SchemaEntries.is, c.in-Object-value.is, view-Object) (IfOk-weaker_by _ _
    (λ F ns. PlacesAreBuilt _ _ SchemaEntries ns.items _ _ _ _) c.compile_entries-in-SchemaEntries.ensures.built (λ F h ns b. record { stand = b.stand; clean = b.clean; spends = b.spends }))

pub compile_places-returns-in-Object-value-clause-refused : goal.compile_places-returns-in-Object-value-clause-refused
compile_places-returns-in-Object-value-clause-refused g t c = rw (c.in-SchemaEntries.is, c.in-Object-value.is, view-Object) c.compile_entries-in-SchemaEntries.ensures.refused

pub compile_places-returns-in-Object-value-2-clause-built : goal.compile_places-returns-in-Object-value-2-clause-built
compile_places-returns-in-Object-value-2-clause-built g t c = rw (c.in-InnerEntries.is, c.in-Object-value-2.is, view-Object) (IfOk-weaker_by _ _
    (λ F ns. PlacesAreBuilt _ _ InnerEntries ns.items _ _ _ _) c.compile_inner_entries.ensures.built (λ F h ns b. record { stand = b.stand; clean = b.clean; spends = b.spends }))

pub compile_places-returns-in-Object-value-2-clause-refused : goal.compile_places-returns-in-Object-value-2-clause-refused
compile_places-returns-in-Object-value-2-clause-refused g t c = rw (c.in-InnerEntries.is, c.in-Object-value-2.is, view-Object) c.compile_inner_entries.ensures.refused

pub compile_places-returns-in-Array-clause-built : goal.compile_places-returns-in-Array-clause-built
compile_places-returns-in-Array-clause-built g t c = rw (c.in-Branches.is, c.in-Array.is, view-Array) (IfOk-weaker_by _ _
    (λ F ns. PlacesAreBuilt _ _ Branches ns.items _ _ _ _) c.compile_branches.ensures.built (λ F h ns b. record { stand = b.stand; clean = b.clean; spends = b.spends }))

pub compile_places-returns-in-Array-clause-refused : goal.compile_places-returns-in-Array-clause-refused
compile_places-returns-in-Array-clause-refused g t c = rw (c.in-Branches.is, c.in-Array.is, view-Array) c.compile_branches.ensures.refused

pub compile_entries-returns-in_err-nodes-clause-refused : goal.compile_entries-returns-in_err-nodes-clause-refused
compile_entries-returns-in_err-nodes-clause-refused g t c = exit_by _ _ _ c.from_residual.ensures.1 (λ F h. refuses_memory within_nothing)

pub compile_entries-loop-name-init : goal.compile_entries-loop-name-init
compile_entries-loop-name-init g t c =
    record {
      so_far = λ F h. none_so_far (rw c.in_ok-nodes.ensures.items tt) (ap (λ l. entries_read c.args.passes_arrays (listed (members_view l))) c.into_iter-name-iterator.ensures.into_iter_gives.0);
      next = tt;
      ends = tt;
    }

pub compile_entries-join-requires-text-segment : goal.compile_entries-join-requires-text-segment
compile_entries-join-requires-text-segment g t c κs = c.as_str.utf8

pub compile_entries-returns-in_err-location-clause-refused : goal.compile_entries-returns-in_err-location-clause-refused
compile_entries-returns-in_err-location-clause-refused g t c =
    exit_by _ _ _ c.from_residual-in_err-location.ensures.1 (λ F h. memory_so_far (c.loop-name.invariant.so_far F h))

pub compile_entries-returns-in_err-node-clause-refused : goal.compile_entries-returns-in_err-node-clause-refused
compile_entries-returns-in_err-node-clause-refused g t c =
    exit_with _ _ _ c.from_residual-in_err-node.ensures.1 (λ F h. entry_refused c.args.place.now (c.loop-name.invariant.so_far F h)
    (at_an_entry c.in-Some.ensures.steps c.args.passes_arrays c.is_read.ensures c.if-is_read.true) (below _ c.in_ok-location.ensures c.as_str.ensures.value) (c.in_err-node.ensures.refused F h))

pub compile_entries-loop-name-preserved-in-Continue-branch-4 : goal.compile_entries-loop-name-preserved-in-Continue-branch-4
compile_entries-loop-name-preserved-in-Continue-branch-4 g t c =
    record {
      so_far = λ F h. one_more_entry c.args.place.now (c.loop-name.invariant.so_far F h)
          (at_an_entry c.in-Some.ensures.steps c.args.passes_arrays c.is_read.ensures c.if-is_read.true)
          (below _ c.in_ok-location.ensures c.as_str.ensures.value) (c.in_ok-node.ensures.built F h) c.in_ok-append.ensures.items;
      next = tt;
      ends = tt;
    }

pub compile_entries-returns-in_err-append-clause-refused : goal.compile_entries-returns-in_err-append-clause-refused
compile_entries-returns-in_err-append-clause-refused g t c =
    exit_by _ _ _ c.from_residual-in_err-append.ensures.1 (λ F h. memory_past (c.loop-name.invariant.so_far F h)
    (at_an_entry c.in-Some.ensures.steps c.args.passes_arrays c.is_read.ensures c.if-is_read.true) (c.in_ok-node.ensures.built F h).spends)

pub compile_entries-loop-name-preserved : goal.compile_entries-loop-name-preserved
compile_entries-loop-name-preserved g t c =
    record {
      so_far = rw (← past_an_entry c.in-Some.ensures.steps c.args.passes_arrays c.is_read.ensures c.if-is_read.false) c.loop-name.invariant.so_far;
      next = tt;
      ends = tt;
    }

pub compile_entries-returns-clause-built : goal.compile_entries-returns-clause-built
compile_entries-returns-clause-built g t c F h = all_so_far (c.loop-name.invariant.so_far F h)
    (ap (λ l. entries_read c.args.passes_arrays (listed (members_view l))) c.in-None.ensures.steps.0 ∙ none_is_read c.args.passes_arrays)

pub compile_inner_entries-loop-name-init : goal.compile_inner_entries-loop-name-init
compile_inner_entries-loop-name-init g t c =
    record {
      so_far = λ F h. none_so_far c.new-nodes.ensures.items (listed_alike c.into_iter-name-iterator.ensures.into_iter_gives.0);
      next = tt;
      ends = tt;
    }

pub compile_inner_entries-join-requires-text-segment : goal.compile_inner_entries-join-requires-text-segment
compile_inner_entries-join-requires-text-segment g t c κs = c.as_str.utf8

pub compile_inner_entries-returns-in_err-location-clause-refused : goal.compile_inner_entries-returns-in_err-location-clause-refused
compile_inner_entries-returns-in_err-location-clause-refused g t c = exit_by _ _ _ c.from_residual.ensures.1 (λ F h. memory_so_far (c.loop-name.invariant.so_far F h))

pub compile_inner_entries-returns-in_err-inner-clause-refused : goal.compile_inner_entries-returns-in_err-inner-clause-refused
compile_inner_entries-returns-in_err-inner-clause-refused g t c =
    exit_with _ _ _ c.from_residual-in_err-inner.ensures.1 (λ F h. inner_refused c.args.place.now (c.loop-name.invariant.so_far F h) (listed_alike c.in-Some.ensures.steps)
    (below _ c.in_ok-location.ensures c.as_str.ensures.value) (c.in_err-inner.ensures.refused F h))

pub compile_inner_entries-returns-in_err-append-clause-refused : goal.compile_inner_entries-returns-in_err-append-clause-refused
compile_inner_entries-returns-in_err-append-clause-refused g t c =
    exit_by _ _ _ c.from_residual-in_err-append.ensures.1 (λ F h. memory_past (c.loop-name.invariant.so_far F h) (listed_alike c.in-Some.ensures.steps) (c.in_ok-inner.ensures.built F h).spends)

pub compile_inner_entries-loop-name-preserved : goal.compile_inner_entries-loop-name-preserved
compile_inner_entries-loop-name-preserved g t c =
    record {
      so_far = λ F h. one_more_inner c.args.place.now (c.loop-name.invariant.so_far F h) (listed_alike c.in-Some.ensures.steps)
          (below _ c.in_ok-location.ensures c.as_str.ensures.value) (c.in_ok-inner.ensures.built F h) c.in_ok-append.ensures.items;
      next = tt;
      ends = tt;
    }

pub compile_inner_entries-returns-clause-built : goal.compile_inner_entries-returns-clause-built
compile_inner_entries-returns-clause-built g t c F h = all_so_far (c.loop-name.invariant.so_far F h) (listed_alike c.in-None.ensures.steps.0)

pub compile_branches-returns-in_err-nodes-clause-refused : goal.compile_branches-returns-in_err-nodes-clause-refused
compile_branches-returns-in_err-nodes-clause-refused g t c = exit_by _ _ _ c.from_residual.ensures.1 (λ F h. refuses_memory within_nothing)

pub compile_branches-loop-i-init : goal.compile_branches-loop-i-init
compile_branches-loop-i-init g t c F h =
    none_so_far (rw c.in_ok-nodes.ensures.items tt) (ap (λ l. numbered (map view l)) c.deref-schema-items.ensures.value ∙ ap numbered (sym (items_list-view c.args.items.now.items)))

pub compile_branches-returns-in_err-location-clause-refused : goal.compile_branches-returns-in_err-location-clause-refused
compile_branches-returns-in_err-location-clause-refused g t c = exit_by _ _ _ c.from_residual-in_err-location.ensures.1 (λ F h. memory_so_far (c.loop-i.invariant F h))

pub compile_branches-returns-in_err-node-clause-refused : goal.compile_branches-returns-in_err-node-clause-refused
compile_branches-returns-in_err-node-clause-refused g t c =
    exit_with _ _ _ c.from_residual-in_err-node.ensures.1 (λ F h. entry_refused c.args.place.now (c.loop-i.invariant F h) (next_branch _ _ c.loop-i-test.true c.schema-item.is) c.in_ok-location.ensures (c.in_err-node.ensures.refused F h))

pub compile_branches-returns-in_err-append-clause-refused : goal.compile_branches-returns-in_err-append-clause-refused
compile_branches-returns-in_err-append-clause-refused g t c =
    exit_by _ _ _ c.from_residual-in_err-append.ensures.1 (λ F h. memory_past (c.loop-i.invariant F h) (next_branch _ _ c.loop-i-test.true c.schema-item.is) (c.in_ok-node.ensures.built F h).spends)

pub compile_branches-loop-i-smaller : goal.compile_branches-loop-i-smaller
compile_branches-loop-i-smaller g t c = falls _ _ c.loop-i-test.true

pub compile_branches-loop-i-preserved : goal.compile_branches-loop-i-preserved
compile_branches-loop-i-preserved g t c F h =
    one_more_entry c.args.place.now (c.loop-i.invariant F h) (next_branch _ _ c.loop-i-test.true c.schema-item.is) c.in_ok-location.ensures (c.in_ok-node.ensures.built F h) c.in_ok-append.ensures.items

pub compile_branches-returns-clause-built : goal.compile_branches-returns-clause-built
compile_branches-returns-clause-built g t c F h = all_so_far (c.loop-i.invariant F h) (no_branch _ _ c.loop-i-test.false)

pub compile_part-returns-in_err-shape-clause-refused : goal.compile_part-returns-in_err-shape-clause-refused
compile_part-returns-in_err-shape-clause-refused g t c =
    exit_with _ _ _ c.from_residual.ensures.1 (λ F h. refuses_part_own (document g.L.Leaf.Leaf g.M.Engine.RegexEngine F) (known c.args.neighbours) c.args.name.now (view c.args.value.now) c.in_err-shape.ensures.refused)

pub compile_part-returns-in_err-nodes-clause-refused : goal.compile_part-returns-in_err-nodes-clause-refused
compile_part-returns-in_err-nodes-clause-refused g t c =
    exit_with _ _ _ c.from_residual-in_err-nodes.ensures.1 (λ F h. refuses_part_inside (document g.L.Leaf.Leaf g.M.Engine.RegexEngine F) c.in_ok-shape.ensures.built c.reads.ensures (c.in_err-nodes.ensures.refused F h))

pub compile_part-returns-clause-built : goal.compile_part-returns-clause-built
compile_part-returns-clause-built g t c F h = part_is_built c.in_ok-shape.ensures.built c.reads.ensures (c.in_ok-nodes.ensures.built F h)

pub compile_neighbour-returns-in_err-location-in-Some-clause-refused : goal.compile_neighbour-returns-in_err-location-in-Some-clause-refused
compile_neighbour-returns-in_err-location-in-Some-clause-refused g t c = exit_by _ _ _ c.from_residual.ensures.1 (λ F h. refuses_memory within_nothing)

pub compile_neighbour-returns-in_err-part-in-Some-clause-refused : goal.compile_neighbour-returns-in_err-part-in-Some-clause-refused
compile_neighbour-returns-in_err-part-in-Some-clause-refused g t c =
    let ms = members_view c.args.members.now.entries in
    exit_with _ _ _ c.from_residual-in_err-part-in-Some.ensures.1 (λ F h. neighbour_refused (document g.L.Leaf.Leaf g.M.Engine.RegexEngine F) (layer_members ms) c.args.place.now c.args.name.now (c.of-neighbours.ensures ∙ sym (same_known ms))
    (found_in_layer ms c.args.name.now c.requires.1.1.1.1.1.1 ∙ sym (member_lookup (Some c.in-Some.value) c.args.name.now c.args.members.now.entries c.in-Some.ensures.value)) c.in_ok-location-in-Some.ensures (c.in_err-part-in-Some.ensures.refused F h))

pub compile_neighbour-returns-in_ok-part-in-Some-clause-built : goal.compile_neighbour-returns-in_ok-part-in-Some-clause-built
compile_neighbour-returns-in_ok-part-in-Some-clause-built g t c F h =
    let ms = members_view c.args.members.now.entries in
    neighbour_built (c.of-neighbours.ensures ∙ sym (same_known ms))
    (found_in_layer ms c.args.name.now c.requires.1.1.1.1.1.1 ∙ sym (member_lookup (Some c.in-Some.value) c.args.name.now c.args.members.now.entries c.in-Some.ensures.value)) c.in_ok-location-in-Some.ensures (c.in_ok-part-in-Some.ensures.built F h)

pub compile_neighbour-returns-in-None-clause-built : goal.compile_neighbour-returns-in-None-clause-built
compile_neighbour-returns-in-None-clause-built g t c F h =
    no_neighbour (found_in_layer (members_view c.args.members.now.entries) c.args.name.now c.requires.1.1.1.1.1.1 ∙ sym (member_lookup None c.args.name.now c.args.members.now.entries c.in-None.ensures.value))

pub compile_taken-returns-in_err-first-in-Some-clause-refused : goal.compile_taken-returns-in_err-first-in-Some-clause-refused
compile_taken-returns-in_err-first-in-Some-clause-refused g t c =
    exit_with _ _ _ c.from_residual.ensures.1 (λ F h. first_taken_refused (document g.L.Leaf.Leaf g.M.Engine.RegexEngine F) (layer_members (members_view c.args.members.now.entries)) c.args.place.now _ _ _ _ _
    (sym c.in-Some.ensures) (c.in_err-first-in-Some.ensures.refused F h))

pub compile_taken-returns-in_err-second-in-Some-clause-refused : goal.compile_taken-returns-in_err-second-in-Some-clause-refused
compile_taken-returns-in_err-second-in-Some-clause-refused g t c =
    exit_with _ _ _ c.from_residual-in_err-second-in-Some.ensures.1 (λ F h. second_taken_refused _ _ _ (sym c.in-Some.ensures) (c.in_ok-first-in-Some.ensures.built F h) (c.in_err-second-in-Some.ensures.refused F h))

pub compile_taken-returns-in_err-take-in-Some-clause-refused : goal.compile_taken-returns-in_err-take-in-Some-clause-refused
compile_taken-returns-in_err-take-in-Some-clause-refused g t c = exit_by _ _ _ c.from_residual-in_err-take-in-Some.ensures.1
    (λ F h. taking_memory c.args.shape.now (sym c.in-Some.ensures) (c.in_ok-first-in-Some.ensures.built F h) (c.in_ok-second-in-Some.ensures.built F h)
    (c.of-neighbours.ensures ∙ sym (same_known (members_view c.args.members.now.entries))) c.in_err-take-in-Some.ensures.asked_at_most)

pub compile_taken-returns-in_ok-take-in-Some-clause-built : goal.compile_taken-returns-in_ok-take-in-Some-clause-built
compile_taken-returns-in_ok-take-in-Some-clause-built g t c F h =
    both_taken c.args.shape.now (sym c.in-Some.ensures) (c.in_ok-first-in-Some.ensures.built F h) (c.in_ok-second-in-Some.ensures.built F h)
    (c.of-neighbours.ensures ∙ sym (same_known (members_view c.args.members.now.entries))) c.in_ok-take-in-Some.ensures.taken c.in_ok-take-in-Some.ensures.asked

pub compile_taken-returns-in-None-clause-built : goal.compile_taken-returns-in-None-clause-built
compile_taken-returns-in-None-clause-built g t c F h = takes_nothing (sym c.in-None.ensures)

pub compile_own-returns-in_err-schemas-in-PrefixItems-clause-refused : goal.compile_own-returns-in_err-schemas-in-PrefixItems-clause-refused
compile_own-returns-in_err-schemas-in-PrefixItems-clause-refused g t c = exit_with _ _ _ c.from_residual.ensures.1
    (rw c.in-PrefixItems.is (own_refused (kit g.L.Leaf.Leaf g.M.Engine.RegexEngine) c.args.targets.now (view c.args.value.now) refl shape.PrefixItems c.in_err-schemas-in-PrefixItems.ensures.refused))

pub compile_own-returns-in_err-place-in-Items-clause-refused : goal.compile_own-returns-in_err-place-in-Items-clause-refused
compile_own-returns-in_err-place-in-Items-clause-refused g t c = exit _ _ _ c.from_residual-in_err-place-in-Items.ensures.1 (own_memory (kit g.L.Leaf.Leaf g.M.Engine.RegexEngine) c.args.targets.now (view c.args.value.now) c.args.shape)

pub compile_own-returns-in_err-node-in-Items-clause-refused : goal.compile_own-returns-in_err-node-in-Items-clause-refused
compile_own-returns-in_err-node-in-Items-clause-refused g t c = exit_with _ _ _ c.from_residual-in_err-node-in-Items.ensures.1
    (rw c.in-Items.is (own_refused (kit g.L.Leaf.Leaf g.M.Engine.RegexEngine) c.args.targets.now (view c.args.value.now) c.in_ok-place-in-Items.ensures (shape.Items c.in-Items.skip) c.in_err-node-in-Items.ensures.refused))

pub compile_own-returns-in_err-place-in-Contains-clause-refused : goal.compile_own-returns-in_err-place-in-Contains-clause-refused
compile_own-returns-in_err-place-in-Contains-clause-refused g t c = exit _ _ _ c.from_residual-in_err-place-in-Contains.ensures.1 (own_memory (kit g.L.Leaf.Leaf g.M.Engine.RegexEngine) c.args.targets.now (view c.args.value.now) c.args.shape)

pub compile_own-returns-in_err-node-in-Contains-clause-refused : goal.compile_own-returns-in_err-node-in-Contains-clause-refused
compile_own-returns-in_err-node-in-Contains-clause-refused g t c = exit_with _ _ _ c.from_residual-in_err-node-in-Contains.ensures.1
    (rw c.in-Contains.is (own_refused (kit g.L.Leaf.Leaf g.M.Engine.RegexEngine) c.args.targets.now (view c.args.value.now) c.in_ok-place-in-Contains.ensures (shape.Contains c.in-Contains.bounds) c.in_err-node-in-Contains.ensures.refused))

pub compile_own-returns-in-PrefixItems-clause-built : goal.compile_own-returns-in-PrefixItems-clause-built
compile_own-returns-in-PrefixItems-clause-built g t c = rw c.in-PrefixItems.is
    (prefix_items_built (kit g.L.Leaf.Leaf g.M.Engine.RegexEngine) c.args.targets.now (view c.args.value.now)
    record { schemas = c.in_ok-schemas-in-PrefixItems.schemas; location = c.args.location } c.in_ok-schemas-in-PrefixItems.ensures.built)

pub compile_own-returns-in-Items-clause-built : goal.compile_own-returns-in-Items-clause-built
compile_own-returns-in-Items-clause-built g t c = rw c.in-Items.is
    (items_built (kit g.L.Leaf.Leaf g.M.Engine.RegexEngine) c.args.targets.now (view c.args.value.now)
    record { node = c.in_ok-node-in-Items.node; skip = c.in-Items.skip; location = c.args.location } c.in_ok-place-in-Items.ensures c.in_ok-node-in-Items.ensures.built)

pub compile_own-returns-in-Contains-clause-built : goal.compile_own-returns-in-Contains-clause-built
compile_own-returns-in-Contains-clause-built g t c = rw c.in-Contains.is
    (contains_built (kit g.L.Leaf.Leaf g.M.Engine.RegexEngine) c.args.targets.now (view c.args.value.now)
    record { node = c.in_ok-node-in-Contains.node; bounds = c.in-Contains.bounds; location = c.args.location } c.in_ok-place-in-Contains.ensures c.in_ok-node-in-Contains.ensures.built)

pub compile_own-returns-in-Reference-clause-built : goal.compile_own-returns-in-Reference-clause-built
compile_own-returns-in-Reference-clause-built g t c = rw c.in-Reference.is
    (reference_built (kit g.L.Leaf.Leaf g.M.Engine.RegexEngine) c.args.targets.now (view c.args.value.now) record { target = c.in-Reference.target; location = c.args.location })

pub compile_own-returns-clause-built : goal.compile_own-returns-clause-built
compile_own-returns-clause-built g t c = rw c.in-Bound.is (bound_built (kit g.L.Leaf.Leaf g.M.Engine.RegexEngine) c.args.targets.now (view c.args.value.now))

pub compile_object-returns-in_err-keywords-clause-refused : goal.compile_object-returns-in_err-keywords-clause-refused
compile_object-returns-in_err-keywords-clause-refused g t c = exit_by _ _ _ c.from_residual.ensures.1 (λ F h. nothing_refused (kit g.L.Leaf.Leaf g.M.Engine.RegexEngine) F _ _)

pub compile_object-loop-name-init : goal.compile_object-loop-name-init
compile_object-loop-name-init g t c =
    record {
      so_far = λ F h. nothing_so_far c.of-plan.ensures.plan c.of-plan.ensures.distinct c.in_ok-keywords.ensures.items c.new-more.ensures.items (listed_alike c.into_iter-name-iterator.ensures.into_iter_gives.0);
      before = [];
      entries = c.into_iter-name-iterator.ensures.into_iter_gives.0;
      next = tt;
      ends = tt;
    }

pub compile_object-returns-in_err-place-clause-refused : goal.compile_object-returns-in_err-place-clause-refused
compile_object-returns-in_err-place-clause-refused g t c =
    exit_by _ _ _ c.from_residual-in_err-place.ensures.1 (λ F h. object_memory (c.loop-name.invariant.so_far F h))

pub compile_object-returns-in_err-shape-clause-refused : goal.compile_object-returns-in_err-shape-clause-refused
compile_object-returns-in_err-shape-clause-refused g t c =
    exit_with _ _ _ c.from_residual-in_err-shape.ensures.1 (λ F h. object_value_refused (c.loop-name.invariant.so_far F h) (next_entry c.in-Some.ensures.steps c.as_str-name.ensures.value)
    c.args.targets.now h c.in_ok-place.ensures c.in_err-shape.ensures.refused)

pub compile_object-returns-in_err-own-in-Some-2-clause-refused : goal.compile_object-returns-in_err-own-in-Some-2-clause-refused
compile_object-returns-in_err-own-in-Some-2-clause-refused g t c =
    exit_with _ _ _ c.from_residual-in_err-own-in-Some-2.ensures.1 (λ F h. object_own_refused (c.loop-name.invariant.so_far F h) (next_entry c.in-Some.ensures.steps c.as_str-name.ensures.value)
    c.args.targets.now h c.in_ok-place.ensures c.in-Some-2.shape (rw c.in-Some-2.is at c.in_ok-shape.ensures.read) c.in_err-own-in-Some-2.ensures.refused)

pub compile_object-returns-in_err-append_own-in-Some-2-clause-refused : goal.compile_object-returns-in_err-append_own-in-Some-2-clause-refused
compile_object-returns-in_err-append_own-in-Some-2-clause-refused g t c =
    exit_by _ _ _ c.from_residual-in_err-append_own-in-Some-2.ensures.1 (λ F h. object_own_memory (c.loop-name.invariant.so_far F h) (next_entry c.in-Some.ensures.steps c.as_str-name.ensures.value)
    c.args.targets.now h c.in_ok-place.ensures c.in-Some-2.shape (rw c.in-Some-2.is at c.in_ok-shape.ensures.read) c.in_ok-own-in-Some-2.ensures.built)

pub compile_object-loop-name-preserved-in-Continue-branch-6 : goal.compile_object-loop-name-preserved-in-Continue-branch-6
compile_object-loop-name-preserved-in-Continue-branch-6 g t c =
    record {
      so_far = λ F h. one_more_own (c.loop-name.invariant.so_far F h) (next_entry c.in-Some.ensures.steps c.as_str-name.ensures.value)
          c.args.targets.now h c.in_ok-place.ensures c.in-Some-2.shape (rw c.in-Some-2.is at c.in_ok-shape.ensures.read) c.in_ok-own-in-Some-2.ensures.built c.in_ok-append_own-in-Some-2.ensures;
      before = c.loop-name.invariant.before ++ (c.in-Some.name.now, c.in-Some.value.now) ∷ [];
      entries = append_assoc c.loop-name.invariant.before ((c.in-Some.name.now, c.in-Some.value.now) ∷ []) c.next.new.self
          ∙ ap (λ l. c.loop-name.invariant.before ++ l) (sym c.in-Some.ensures.steps) ∙ c.loop-name.invariant.entries;
      next = tt;
      ends = tt;
    }

pub compile_object-compile_part-requires : goal.compile_object-compile_part-requires
compile_object-compile_part-requires g t c κs within =
    let lower = size_among the_size c.loop-name.invariant.before c.in-Some.name.now c.in-Some.value.now c.next.new.self c.args.members.now.entries
    (ap (λ l. c.loop-name.invariant.before ++ l) (sym c.in-Some.ensures.steps) ∙ c.loop-name.invariant.entries) in
    (omega (arith, c.decreases, lower), within)

pub compile_object-returns-in_err-part-in-None-2-clause-refused : goal.compile_object-returns-in_err-part-in-None-2-clause-refused
compile_object-returns-in_err-part-in-None-2-clause-refused g t c =
    exit_with _ _ _ c.from_residual-in_err-part-in-None-2.ensures.1 (λ F h. object_part_refused (c.loop-name.invariant.so_far F h) (next_entry c.in-Some.ensures.steps c.as_str-name.ensures.value)
    (rw c.in-None-2.is at c.in_ok-shape.ensures.read) c.is_taken.ensures c.if-not-is_taken.true c.of-neighbours.ensures c.in_ok-place.ensures (c.in_err-part-in-None-2.ensures.refused F h))

pub compile_object-returns-in_err-taken-in-None-2-clause-refused : goal.compile_object-returns-in_err-taken-in-None-2-clause-refused
compile_object-returns-in_err-taken-in-None-2-clause-refused g t c =
    exit_with _ _ _ c.from_residual-in_err-taken-in-None-2.ensures.1 (λ F h. object_taken_refused (c.loop-name.invariant.so_far F h) (next_entry c.in-Some.ensures.steps c.as_str-name.ensures.value)
    (rw c.in-None-2.is at c.in_ok-shape.ensures.read) c.is_taken.ensures c.if-not-is_taken.true c.of-neighbours.ensures c.in_ok-place.ensures (c.in_ok-part-in-None-2.ensures.built F h) (c.in_err-taken-in-None-2.ensures.refused F h))

pub compile_object-returns-in_err-append_taking-in-None-2-clause-refused : goal.compile_object-returns-in_err-append_taking-in-None-2-clause-refused
compile_object-returns-in_err-append_taking-in-None-2-clause-refused g t c =
    exit_by _ _ _ c.from_residual-in_err-append_taking-in-None-2.ensures.1 (λ F h. object_taking_memory (c.loop-name.invariant.so_far F h) (next_entry c.in-Some.ensures.steps c.as_str-name.ensures.value)
    (rw c.in-None-2.is at c.in_ok-shape.ensures.read) c.is_taken.ensures c.if-not-is_taken.true c.of-neighbours.ensures c.in_ok-place.ensures (c.in_ok-part-in-None-2.ensures.built F h) (c.in_ok-taken-in-None-2.ensures.built F h))

pub compile_object-loop-name-preserved-in-Continue-branch-9 : goal.compile_object-loop-name-preserved-in-Continue-branch-9
compile_object-loop-name-preserved-in-Continue-branch-9 g t c =
    record {
      so_far = λ F h. one_more_taking (c.loop-name.invariant.so_far F h) (next_entry c.in-Some.ensures.steps c.as_str-name.ensures.value)
          (rw c.in-None-2.is at c.in_ok-shape.ensures.read) c.is_taken.ensures c.if-not-is_taken.true c.of-neighbours.ensures c.in_ok-place.ensures (c.in_ok-part-in-None-2.ensures.built F h) (c.in_ok-taken-in-None-2.ensures.built F h)
          (c.in_ok-append_taking-in-None-2.ensures (document g.L.Leaf.Leaf g.M.Engine.RegexEngine F));
      before = c.loop-name.invariant.before ++ (c.in-Some.name.now, c.in-Some.value.now) ∷ [];
      entries = append_assoc c.loop-name.invariant.before ((c.in-Some.name.now, c.in-Some.value.now) ∷ []) c.next.new.self
          ∙ ap (λ l. c.loop-name.invariant.before ++ l) (sym c.in-Some.ensures.steps) ∙ c.loop-name.invariant.entries;
      next = tt;
      ends = tt;
    }

pub compile_object-returns-in_err-append_alone-in-None-2-clause-refused : goal.compile_object-returns-in_err-append_alone-in-None-2-clause-refused
compile_object-returns-in_err-append_alone-in-None-2-clause-refused g t c =
    exit_by _ _ _ c.from_residual-in_err-append_alone-in-None-2.ensures.1 (λ F h. object_alone_memory (c.loop-name.invariant.so_far F h) (next_entry c.in-Some.ensures.steps c.as_str-name.ensures.value)
    (rw c.in-None-2.is at c.in_ok-shape.ensures.read) c.is_taken.ensures c.if-not-is_taken.true c.of-neighbours.ensures c.in_ok-place.ensures (c.in_ok-part-in-None-2.ensures.built F h) c.takes_any.ensures c.if-takes_any.false)

pub compile_object-loop-name-preserved-in-Continue-branch-10 : goal.compile_object-loop-name-preserved-in-Continue-branch-10
compile_object-loop-name-preserved-in-Continue-branch-10 g t c =
    record {
      so_far = λ F h. one_more_alone (c.loop-name.invariant.so_far F h) (next_entry c.in-Some.ensures.steps c.as_str-name.ensures.value)
          (rw c.in-None-2.is at c.in_ok-shape.ensures.read) c.is_taken.ensures c.if-not-is_taken.true c.of-neighbours.ensures c.in_ok-place.ensures (c.in_ok-part-in-None-2.ensures.built F h) c.takes_any.ensures c.if-takes_any.false
          (c.in_ok-append_alone-in-None-2.ensures (document g.L.Leaf.Leaf g.M.Engine.RegexEngine F));
      before = c.loop-name.invariant.before ++ (c.in-Some.name.now, c.in-Some.value.now) ∷ [];
      entries = append_assoc c.loop-name.invariant.before ((c.in-Some.name.now, c.in-Some.value.now) ∷ []) c.next.new.self
          ∙ ap (λ l. c.loop-name.invariant.before ++ l) (sym c.in-Some.ensures.steps) ∙ c.loop-name.invariant.entries;
      next = tt;
      ends = tt;
    }

pub compile_object-loop-name-preserved : goal.compile_object-loop-name-preserved
compile_object-loop-name-preserved g t c =
    record {
      so_far = λ F h. one_more_taken (c.loop-name.invariant.so_far F h) (next_entry c.in-Some.ensures.steps c.as_str-name.ensures.value)
          (rw c.in-None-2.is at c.in_ok-shape.ensures.read) c.is_taken.ensures c.if-not-is_taken.false;
      before = c.loop-name.invariant.before ++ (c.in-Some.name.now, c.in-Some.value.now) ∷ [];
      entries = append_assoc c.loop-name.invariant.before ((c.in-Some.name.now, c.in-Some.value.now) ∷ []) c.next.new.self
          ∙ ap (λ l. c.loop-name.invariant.before ++ l) (sym c.in-Some.ensures.steps) ∙ c.loop-name.invariant.entries;
      next = tt;
      ends = tt;
    }

pub compile_object-returns-clause-built : goal.compile_object-returns-clause-built
compile_object-returns-clause-built g t c = λ F h. document_is_built (c.loop-name.invariant.so_far F h) _ c.loop-name.keywords (search (rules, node_lemmas)) (search (rules, node_lemmas)) (search (rules, node_lemmas)) refl
    (listed_alike c.in-None.ensures.steps.0)
