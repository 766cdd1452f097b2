use Rattle.std.proofs.Common.{falls, arith, rules, true, false, inl, inr, ◌++◌, [], ◌∷◌, map, refl, sym, ap, subst, ◌≡◌, ◌∙◌, Some, None, append-nil, append_assoc}
use Rattle.olk_base.specs.Kit.{kit}
use Rattle.olk_tree.specs.Steps.{layer}
use Rattle.std.proofs.lemmas.Result.{IfOk-weaker}
use Rattle.olk_build.proofs.Built.{no_object_no_members, no_array_no_items, none_are_built, itself_is_built, next_branch, no_branch, entry_refused, one_more_entry, inner_refused, one_more_inner}
use Rattle.olk_build.proofs.Built.{at_an_entry, past_an_entry, none_is_read, built_truth, built_object, refuses_object, refuses_no_schema, size_among}
use Rattle.olk_build.specs.declared.shape.ReadPlaces.TheVariants.{Nothing, Entries, SchemaEntries, InnerEntries, Branches}
use Rattle.serde_json.specs.View.{view, members_view}
use Rattle.serde_json.proofs.Views.{view-Object, view-Array}
use Rattle.serde_json.specs.declared.value.Value.{the_lemmas as value_lemmas}
use Rattle.olk_spec.specs.Schemas.{listed, numbered}
use Rattle.olk_reports.proofs.Errors.{kind_of_multiple_types}
use Rattle.olk_build.specs.Building.{entries_read, PlacesAreBuilt}
use Rattle.olk_build.proofs.Spending.{exit, exit_with, refuses_memory, within_nothing, within_exactly, none_so_far, all_so_far, memory_so_far, memory_past}
use Rattle.olk_spec.proofs.Maps.{items_list-view}
use Rattle.olk_build.proofs.ReadEntries.{below, listed_alike}
use Rattle.olk_build.proofs.Parts.{refuses_part_own, refuses_part_inside, part_is_built}
use Rattle.serde_json.proofs.value.Value.TheLaws.{the_size}
use Rattle.olk_build.specs.Standing.{is_taken}
use Rattle.olk_build.proofs.TakenParts.{neighbour_refused, no_neighbour, neighbour_built, first_taken_refused, second_taken_refused, takes_nothing, both_taken, taking_memory}
use Rattle.olk_build.proofs.Member.{no_keywords_so_far, keywords_memory, object_is_built, next_found, next_taken, next_refused, one_more, part_refused, taken_refused, read_memory, member_built}
use Rattle.olk_build.proofs.Member.{taken_built, alone_memory, alone_built}
use Rattle.olk_meaning.specs.{Conditions.known, Plans.planned}
use Rattle.olk_meaning.proofs.{Facts.no_schema_is, Fused.member_lookup}
use Rattle.olk_build.proofs.build.+compile.Goals as goal

pub compile_entries-returns-in_err-nodes-clause-refused : goal.compile_entries-returns-in_err-nodes-clause-refused
compile_entries-returns-in_err-nodes-clause-refused g t c = exit _ _ _ c.from_residual.ensures.1 (refuses_memory within_nothing)

pub compile_entries-loop-name-init : goal.compile_entries-loop-name-init
compile_entries-loop-name-init g t c =
    record {
      so_far = none_so_far (rw c.in_ok-nodes.ensures.items tt) (ap (λ l. entries_read c.args.passes_arrays (listed (members_view l))) c.into_iter-name-iterator.ensures.into_iter_gives.0);
      next = tt;
      ends = tt;
    }

pub compile_entries-join-requires-text-segment : goal.compile_entries-join-requires-text-segment
compile_entries-join-requires-text-segment g t c κs = c.as_str.utf8

pub compile_entries-returns-in_err-location-clause-refused : goal.compile_entries-returns-in_err-location-clause-refused
compile_entries-returns-in_err-location-clause-refused g t c =
    exit _ _ _ c.from_residual-in_err-location.ensures.1 (memory_so_far c.loop-name.invariant.so_far)

pub compile_entries-returns-in_err-node-clause-refused : goal.compile_entries-returns-in_err-node-clause-refused
compile_entries-returns-in_err-node-clause-refused g t c =
    exit_with _ _ _ c.from_residual-in_err-node.ensures.1 (entry_refused c.args.place.now c.loop-name.invariant.so_far
    (at_an_entry c.in-Some.ensures.steps c.args.passes_arrays c.is_read.ensures c.if-is_read.true) (below _ c.in_ok-location.ensures c.as_str.ensures.value) c.in_err-node.ensures.refused)

pub compile_entries-loop-name-preserved-in-Continue-branch-4 : goal.compile_entries-loop-name-preserved-in-Continue-branch-4
compile_entries-loop-name-preserved-in-Continue-branch-4 g t c =
    record {
      so_far = one_more_entry c.args.place.now c.loop-name.invariant.so_far
          (at_an_entry c.in-Some.ensures.steps c.args.passes_arrays c.is_read.ensures c.if-is_read.true)
          (below _ c.in_ok-location.ensures c.as_str.ensures.value) c.in_ok-node.ensures.built c.in_ok-append.ensures.items;
      next = tt;
      ends = tt;
    }

pub compile_entries-returns-in_err-append-clause-refused : goal.compile_entries-returns-in_err-append-clause-refused
compile_entries-returns-in_err-append-clause-refused g t c =
    exit _ _ _ c.from_residual-in_err-append.ensures.1 (memory_past c.loop-name.invariant.so_far
    (at_an_entry c.in-Some.ensures.steps c.args.passes_arrays c.is_read.ensures c.if-is_read.true) c.in_ok-node.ensures.built.spends)

pub compile_entries-loop-name-preserved : goal.compile_entries-loop-name-preserved
compile_entries-loop-name-preserved g t c =
    record {
      so_far = rw (← past_an_entry c.in-Some.ensures.steps c.args.passes_arrays c.is_read.ensures c.if-is_read.false) c.loop-name.invariant.so_far;
      next = tt;
      ends = tt;
    }

pub compile_entries-returns-clause-built : goal.compile_entries-returns-clause-built
compile_entries-returns-clause-built g t c = all_so_far c.loop-name.invariant.so_far
    (ap (λ l. entries_read c.args.passes_arrays (listed (members_view l))) c.in-None.ensures.steps.0 ∙ none_is_read c.args.passes_arrays)

pub compile_inner_entries-loop-name-init : goal.compile_inner_entries-loop-name-init
compile_inner_entries-loop-name-init g t c =
    record {
      so_far = none_so_far c.new-nodes.ensures.items (listed_alike c.into_iter-name-iterator.ensures.into_iter_gives.0);
      next = tt;
      ends = tt;
    }

pub compile_inner_entries-join-requires-text-segment : goal.compile_inner_entries-join-requires-text-segment
compile_inner_entries-join-requires-text-segment g t c κs = c.as_str.utf8

pub compile_inner_entries-returns-in_err-location-clause-refused : goal.compile_inner_entries-returns-in_err-location-clause-refused
compile_inner_entries-returns-in_err-location-clause-refused g t c = exit _ _ _ c.from_residual.ensures.1 (memory_so_far c.loop-name.invariant.so_far)

pub compile_inner_entries-returns-in_err-inner-clause-refused : goal.compile_inner_entries-returns-in_err-inner-clause-refused
compile_inner_entries-returns-in_err-inner-clause-refused g t c =
    exit_with _ _ _ c.from_residual-in_err-inner.ensures.1 (inner_refused c.args.place.now c.loop-name.invariant.so_far (listed_alike c.in-Some.ensures.steps)
    (below _ c.in_ok-location.ensures c.as_str.ensures.value) c.in_err-inner.ensures.refused)

pub compile_inner_entries-returns-in_err-append-clause-refused : goal.compile_inner_entries-returns-in_err-append-clause-refused
compile_inner_entries-returns-in_err-append-clause-refused g t c =
    exit _ _ _ c.from_residual-in_err-append.ensures.1 (memory_past c.loop-name.invariant.so_far (listed_alike c.in-Some.ensures.steps) c.in_ok-inner.ensures.built.spends)

pub compile_inner_entries-loop-name-preserved : goal.compile_inner_entries-loop-name-preserved
compile_inner_entries-loop-name-preserved g t c =
    record {
      so_far = one_more_inner c.args.place.now c.loop-name.invariant.so_far (listed_alike c.in-Some.ensures.steps)
          (below _ c.in_ok-location.ensures c.as_str.ensures.value) c.in_ok-inner.ensures.built c.in_ok-append.ensures.items;
      next = tt;
      ends = tt;
    }

pub compile_inner_entries-returns-clause-built : goal.compile_inner_entries-returns-clause-built
compile_inner_entries-returns-clause-built g t c = all_so_far c.loop-name.invariant.so_far (listed_alike c.in-None.ensures.steps.0)

pub compile_branches-returns-in_err-nodes-clause-refused : goal.compile_branches-returns-in_err-nodes-clause-refused
compile_branches-returns-in_err-nodes-clause-refused g t c = exit _ _ _ c.from_residual.ensures.1 (refuses_memory within_nothing)

pub compile_branches-loop-i-init : goal.compile_branches-loop-i-init
compile_branches-loop-i-init g t c = none_so_far (rw c.in_ok-nodes.ensures.items tt) (ap (λ l. numbered (map view l)) c.deref-schema-items.ensures.value ∙ ap numbered (sym (items_list-view c.args.items.now.items)))

pub compile_branches-returns-in_err-location-clause-refused : goal.compile_branches-returns-in_err-location-clause-refused
compile_branches-returns-in_err-location-clause-refused g t c = exit _ _ _ c.from_residual-in_err-location.ensures.1 (memory_so_far c.loop-i.invariant)

pub compile_branches-returns-in_err-node-clause-refused : goal.compile_branches-returns-in_err-node-clause-refused
compile_branches-returns-in_err-node-clause-refused g t c =
    exit_with _ _ _ c.from_residual-in_err-node.ensures.1 (entry_refused c.args.place.now c.loop-i.invariant (next_branch _ _ c.loop-i-test.true c.schema-item.is) c.in_ok-location.ensures c.in_err-node.ensures.refused)

pub compile_branches-returns-in_err-append-clause-refused : goal.compile_branches-returns-in_err-append-clause-refused
compile_branches-returns-in_err-append-clause-refused g t c =
    exit _ _ _ c.from_residual-in_err-append.ensures.1 (memory_past c.loop-i.invariant (next_branch _ _ c.loop-i-test.true c.schema-item.is) c.in_ok-node.ensures.built.spends)

pub compile_branches-loop-i-smaller : goal.compile_branches-loop-i-smaller
compile_branches-loop-i-smaller g t c = falls _ _ c.loop-i-test.true

pub compile_branches-loop-i-preserved : goal.compile_branches-loop-i-preserved
compile_branches-loop-i-preserved g t c = one_more_entry c.args.place.now c.loop-i.invariant (next_branch _ _ c.loop-i-test.true c.schema-item.is) c.in_ok-location.ensures c.in_ok-node.ensures.built c.in_ok-append.ensures.items

pub compile_branches-returns-clause-built : goal.compile_branches-returns-clause-built
compile_branches-returns-clause-built g t c = all_so_far c.loop-i.invariant (no_branch _ _ c.loop-i-test.false)

pub compile_part-returns-in_err-shape-clause-refused : goal.compile_part-returns-in_err-shape-clause-refused
compile_part-returns-in_err-shape-clause-refused g t c = exit_with _ _ _ c.from_residual.ensures.1 (refuses_part_own (layer g.L.Leaf.Leaf g.M.Engine.RegexEngine) (known c.args.neighbours) c.args.name.now (view c.args.value.now) c.in_err-shape.ensures.refused)

pub compile_part-returns-in_err-nodes-clause-refused : goal.compile_part-returns-in_err-nodes-clause-refused
compile_part-returns-in_err-nodes-clause-refused g t c = exit_with _ _ _ c.from_residual-in_err-nodes.ensures.1 (refuses_part_inside (layer g.L.Leaf.Leaf g.M.Engine.RegexEngine) c.in_ok-shape.ensures.built c.reads.ensures c.in_err-nodes.ensures.refused)

pub compile_part-returns-clause-built : goal.compile_part-returns-clause-built
compile_part-returns-clause-built g t c = part_is_built c.in_ok-shape.ensures.built c.reads.ensures c.in_ok-nodes.ensures.built

pub compile_places-returns-in_err-place-in-Itself-clause-refused : goal.compile_places-returns-in_err-place-in-Itself-clause-refused
compile_places-returns-in_err-place-in-Itself-clause-refused g t c = exit _ _ _ c.from_residual.ensures.1 (refuses_memory within_nothing)

pub compile_places-returns-in_err-node-in-Itself-clause-refused : goal.compile_places-returns-in_err-node-in-Itself-clause-refused
compile_places-returns-in_err-node-in-Itself-clause-refused g t c =
    exit_with _ _ _ c.from_residual-in_err-node-in-Itself.ensures.1 (rw (c.in-Itself.is, ← c.in_ok-place-in-Itself.ensures) c.in_err-node-in-Itself.ensures.refused)

pub compile_places-returns-in_err-one-in-Itself-clause-refused : goal.compile_places-returns-in_err-one-in-Itself-clause-refused
compile_places-returns-in_err-one-in-Itself-clause-refused g t c = exit_with _ _ _ c.from_residual-in_err-one-in-Itself.ensures.1
    (rw c.in-Itself.is (refuses_memory (within_exactly c.in_ok-node-in-Itself.ensures.built.spends) _ refl))

pub compile_places-returns-in_default : goal.compile_places-returns-in_default
compile_places-returns-in_default g t c = record { built = rw (c.in-Entries.is, c.new-in_default.ensures.items) (none_are_built Entries (no_object_no_members _ c.in_default.not-Object)); refused = tt }

pub compile_places-returns-in_default-value : goal.compile_places-returns-in_default-value
compile_places-returns-in_default-value g t c = record { built = rw (c.in-SchemaEntries.is, c.new-in_default-value.ensures.items) (none_are_built SchemaEntries (no_object_no_members _ c.in_default-value.not-Object)); refused = tt }

pub compile_places-returns-in_default-value-2 : goal.compile_places-returns-in_default-value-2
compile_places-returns-in_default-value-2 g t c = record { built = rw (c.in-InnerEntries.is, c.new-in_default-value-2.ensures.items) (none_are_built InnerEntries (no_object_no_members _ c.in_default-value-2.not-Object)); refused = tt }

pub compile_places-returns-in_default-value-3 : goal.compile_places-returns-in_default-value-3
compile_places-returns-in_default-value-3 g t c = record { built = rw (c.in-Branches.is, c.new-in_default-value-3.ensures.items) (none_are_built Branches (no_array_no_items _ c.in_default-value-3.not-Array)); refused = tt }

pub compile_places-returns-in-Nothing-clause-built : goal.compile_places-returns-in-Nothing-clause-built
compile_places-returns-in-Nothing-clause-built g t c = rw (c.in-Nothing.is, c.new.ensures.items) (none_are_built Nothing tt)

pub compile_places-returns-in_ok-one-in-Itself-clause-built : goal.compile_places-returns-in_ok-one-in-Itself-clause-built
compile_places-returns-in_ok-one-in-Itself-clause-built g t c = rw (c.in-Itself.is, c.in_ok-one-in-Itself.ensures, ← c.in_ok-place-in-Itself.ensures) (itself_is_built c.in_ok-node-in-Itself.ensures.built)

pub compile_places-returns-in-Object-clause-built : goal.compile_places-returns-in-Object-clause-built
compile_places-returns-in-Object-clause-built g t c =
    rw (c.in-Entries.is, c.in-Object.is, view-Object) (IfOk-weaker _ _ (λ v. PlacesAreBuilt _ _ Entries v.items _ _ _ _) (λ v h. record { stand = h.stand; clean = h.clean; spends = h.spends }) c.compile_entries.ensures.built)

pub compile_places-returns-in-Object-clause-refused : goal.compile_places-returns-in-Object-clause-refused
compile_places-returns-in-Object-clause-refused g t c = rw (c.in-Entries.is, c.in-Object.is, view-Object) c.compile_entries.ensures.refused

pub compile_places-returns-in-Object-value-clause-built : goal.compile_places-returns-in-Object-value-clause-built
compile_places-returns-in-Object-value-clause-built g t c =
    rw (c.in-SchemaEntries.is, c.in-Object-value.is, view-Object) (IfOk-weaker _ _ (λ v. PlacesAreBuilt _ _ SchemaEntries v.items _ _ _ _) (λ v h. record { stand = h.stand; clean = h.clean; spends = h.spends }) c.compile_entries-in-SchemaEntries.ensures.built)

pub compile_places-returns-in-Object-value-clause-refused : goal.compile_places-returns-in-Object-value-clause-refused
compile_places-returns-in-Object-value-clause-refused g t c = rw (c.in-SchemaEntries.is, c.in-Object-value.is, view-Object) c.compile_entries-in-SchemaEntries.ensures.refused

pub compile_places-returns-in-Object-value-2-clause-built : goal.compile_places-returns-in-Object-value-2-clause-built
compile_places-returns-in-Object-value-2-clause-built g t c =
    rw (c.in-InnerEntries.is, c.in-Object-value-2.is, view-Object) (IfOk-weaker _ _ (λ v. PlacesAreBuilt _ _ InnerEntries v.items _ _ _ _) (λ v h. record { stand = h.stand; clean = h.clean; spends = h.spends }) c.compile_inner_entries.ensures.built)

pub compile_places-returns-in-Object-value-2-clause-refused : goal.compile_places-returns-in-Object-value-2-clause-refused
compile_places-returns-in-Object-value-2-clause-refused g t c = rw (c.in-InnerEntries.is, c.in-Object-value-2.is, view-Object) c.compile_inner_entries.ensures.refused

pub compile_places-returns-in-Array-clause-built : goal.compile_places-returns-in-Array-clause-built
compile_places-returns-in-Array-clause-built g t c =
    rw (c.in-Branches.is, c.in-Array.is, view-Array) (IfOk-weaker _ _ (λ v. PlacesAreBuilt _ _ Branches v.items _ _ _ _) (λ v h. record { stand = h.stand; clean = h.clean; spends = h.spends }) c.compile_branches.ensures.built)

pub compile_places-returns-in-Array-clause-refused : goal.compile_places-returns-in-Array-clause-refused
compile_places-returns-in-Array-clause-refused g t c = rw (c.in-Branches.is, c.in-Array.is, view-Array) c.compile_branches.ensures.refused

pub compile_schema-returns-in-Bool-true-clause-built : goal.compile_schema-returns-in-Bool-true-clause-built
compile_schema-returns-in-Bool-true-clause-built g t c = built_truth c.tick_compiled.ensures true c.new.ensures (ap view c.in-Bool-true.is ∙ search (rules, value_lemmas))

pub compile_schema-returns-in-Bool-false-clause-built : goal.compile_schema-returns-in-Bool-false-clause-built
compile_schema-returns-in-Bool-false-clause-built g t c = built_truth c.tick_compiled.ensures false c.new-in-Bool-false.ensures (ap view c.in-Bool-false.is ∙ search (rules, value_lemmas))

pub compile_schema-returns-in_err-keywords-in-Object-clause-refused : goal.compile_schema-returns-in_err-keywords-in-Object-clause-refused
compile_schema-returns-in_err-keywords-in-Object-clause-refused g t c =
    exit_with _ _ _ c.from_residual.ensures.1 (rw (c.in-Object.is, view-Object) (refuses_object (kit g.L.Leaf.Leaf g.M.Engine.RegexEngine) _ _ c.tick_compiled.ensures c.in_err-keywords-in-Object.ensures.refused))

pub compile_schema-returns-in-Object-clause-built : goal.compile_schema-returns-in-Object-clause-built
compile_schema-returns-in-Object-clause-built g t c = rw (c.in-Object.is, view-Object) (built_object c.tick_compiled.ensures c.new-in-Object.ensures c.in_ok-keywords-in-Object.ensures.built)

pub compile_schema-returns-clause-built : goal.compile_schema-returns-clause-built
compile_schema-returns-clause-built g t c = tt

pub compile_schema-returns-clause-refused : goal.compile_schema-returns-clause-refused
compile_schema-returns-clause-refused g t c = refuses_no_schema _ _ _ (no_schema_is _ (elim c.in-Null.is [
  | inl h ↦ rw h (search (rules, value_lemmas))
  | inr h ↦ elim h [
    | inl i ↦ rw i.1 (search (rules, value_lemmas))
    | inr i ↦ elim i [
      | inl j ↦ rw j.1 (search (rules, value_lemmas))
      | inr j ↦ rw j.1 (search (rules, value_lemmas))
    ]
  ]
])) c.tick_compiled.ensures (rw kind_of_multiple_types at c.refuse.ensures)

pub compile_object-returns-in_err-keywords-clause-refused : goal.compile_object-returns-in_err-keywords-clause-refused
compile_object-returns-in_err-keywords-clause-refused g t c = exit _ _ _ c.from_residual.ensures.1 (refuses_memory within_nothing)

pub compile_taken-returns-in_err-first-in-Some-clause-refused : goal.compile_taken-returns-in_err-first-in-Some-clause-refused
compile_taken-returns-in_err-first-in-Some-clause-refused g t c =
    exit_with _ _ _ c.from_residual.ensures.1 (first_taken_refused (layer g.L.Leaf.Leaf g.M.Engine.RegexEngine) (members_view c.args.members.now.entries) c.args.place.now _ _ _ _ _ (sym c.in-Some.ensures) c.in_err-first-in-Some.ensures.refused)

pub compile_taken-returns-in_err-second-in-Some-clause-refused : goal.compile_taken-returns-in_err-second-in-Some-clause-refused
compile_taken-returns-in_err-second-in-Some-clause-refused g t c =
    exit_with _ _ _ c.from_residual-in_err-second-in-Some.ensures.1 (second_taken_refused _ _ _ (sym c.in-Some.ensures) c.in_ok-first-in-Some.ensures.built c.in_err-second-in-Some.ensures.refused)

pub compile_taken-returns-in_err-take-in-Some-clause-refused : goal.compile_taken-returns-in_err-take-in-Some-clause-refused
compile_taken-returns-in_err-take-in-Some-clause-refused g t c = exit _ _ _ c.from_residual-in_err-take-in-Some.ensures.1
    (taking_memory c.args.shape.now (sym c.in-Some.ensures) c.in_ok-first-in-Some.ensures.built c.in_ok-second-in-Some.ensures.built c.of-neighbours.ensures c.in_err-take-in-Some.ensures.asked_at_most)

pub compile_taken-returns-in_ok-take-in-Some-clause-built : goal.compile_taken-returns-in_ok-take-in-Some-clause-built
compile_taken-returns-in_ok-take-in-Some-clause-built g t c =
    both_taken c.args.shape.now (sym c.in-Some.ensures) c.in_ok-first-in-Some.ensures.built c.in_ok-second-in-Some.ensures.built
    c.of-neighbours.ensures c.in_ok-take-in-Some.ensures.taken c.in_ok-take-in-Some.ensures.asked

pub compile_taken-returns-in-None-clause-built : goal.compile_taken-returns-in-None-clause-built
compile_taken-returns-in-None-clause-built g t c = takes_nothing (sym c.in-None.ensures)

pub compile_neighbour-returns-in_err-location-in-Some-clause-refused : goal.compile_neighbour-returns-in_err-location-in-Some-clause-refused
compile_neighbour-returns-in_err-location-in-Some-clause-refused g t c = exit _ _ _ c.from_residual.ensures.1 (refuses_memory within_nothing)

pub compile_neighbour-returns-in_err-part-in-Some-clause-refused : goal.compile_neighbour-returns-in_err-part-in-Some-clause-refused
compile_neighbour-returns-in_err-part-in-Some-clause-refused g t c =
    exit_with _ _ _ c.from_residual-in_err-part-in-Some.ensures.1 (neighbour_refused (layer g.L.Leaf.Leaf g.M.Engine.RegexEngine) (members_view c.args.members.now.entries) c.args.place.now c.args.name.now c.of-neighbours.ensures (sym (member_lookup (Some c.in-Some.value) c.args.name.now c.args.members.now.entries c.in-Some.ensures.value)) c.in_ok-location-in-Some.ensures c.in_err-part-in-Some.ensures.refused)

pub compile_neighbour-returns-in_ok-part-in-Some-clause-built : goal.compile_neighbour-returns-in_ok-part-in-Some-clause-built
compile_neighbour-returns-in_ok-part-in-Some-clause-built g t c =
    neighbour_built c.of-neighbours.ensures (sym (member_lookup (Some c.in-Some.value) c.args.name.now c.args.members.now.entries c.in-Some.ensures.value)) c.in_ok-location-in-Some.ensures c.in_ok-part-in-Some.ensures.built

pub compile_neighbour-returns-in-None-clause-built : goal.compile_neighbour-returns-in-None-clause-built
compile_neighbour-returns-in-None-clause-built g t c =
    no_neighbour (sym (member_lookup None c.args.name.now c.args.members.now.entries c.in-None.ensures.value))

pub compile_object-loop-name-init : goal.compile_object-loop-name-init
compile_object-loop-name-init g t c =
    record {
      so_far = no_keywords_so_far c.of-plan.ensures.plan c.of-plan.ensures.distinct c.in_ok-keywords.ensures.items (listed_alike c.into_iter-name-iterator.ensures.into_iter_gives.0);
      before = [];
      entries = c.into_iter-name-iterator.ensures.into_iter_gives.0;
      next = tt;
      ends = tt;
    }

pub compile_object-returns-in_err-location-clause-refused : goal.compile_object-returns-in_err-location-clause-refused
compile_object-returns-in_err-location-clause-refused g t c =
    exit _ _ _ c.from_residual-in_err-location.ensures.1 (keywords_memory c.loop-name.invariant.so_far)

pub compile_object-compile_part-requires : goal.compile_object-compile_part-requires
compile_object-compile_part-requires g t c κs within =
    let lower = size_among the_size c.loop-name.invariant.before c.in-Some.name.now c.in-Some.value.now c.next.new.self c.args.members.now.entries
    (ap (λ l. c.loop-name.invariant.before ++ l) (sym c.in-Some.ensures.steps) ∙ c.loop-name.invariant.entries) in
    (omega (arith, c.decreases, lower), within)

pub compile_object-returns-in_err-part-clause-refused : goal.compile_object-returns-in_err-part-clause-refused
compile_object-returns-in_err-part-clause-refused g t c =
    exit_with _ _ _ c.from_residual-in_err-part.ensures.1 (next_refused c.loop-name.invariant.so_far (listed_alike c.in-Some.ensures.steps) (part_refused (layer g.L.Leaf.Leaf g.M.Engine.RegexEngine) g.N.BuiltNode.answers (members_view c.args.members.now.entries) c.args.place.now _ _ _ (next_taken c.loop-name.invariant.so_far (listed_alike c.in-Some.ensures.steps) (subst (λ x. c.is_taken.result ≡ is_taken (planned c.of-plan.result) x) c.as_str-name.ensures.value c.is_taken.ensures) c.if-not-is_taken.true) (next_found c.loop-name.invariant.so_far (listed_alike c.in-Some.ensures.steps)) c.of-neighbours.ensures (below _ c.in_ok-location.ensures c.as_str-name.ensures.value) c.as_str-name.ensures.value c.in_err-part.ensures.refused))

pub compile_object-returns-in_err-taken-clause-refused : goal.compile_object-returns-in_err-taken-clause-refused
compile_object-returns-in_err-taken-clause-refused g t c =
    exit_with _ _ _ c.from_residual-in_err-taken.ensures.1 (next_refused c.loop-name.invariant.so_far (listed_alike c.in-Some.ensures.steps) (taken_refused (layer g.L.Leaf.Leaf g.M.Engine.RegexEngine) g.N.BuiltNode.answers (members_view c.args.members.now.entries) c.args.place.now _ _ _ (next_taken c.loop-name.invariant.so_far (listed_alike c.in-Some.ensures.steps) (subst (λ x. c.is_taken.result ≡ is_taken (planned c.of-plan.result) x) c.as_str-name.ensures.value c.is_taken.ensures) c.if-not-is_taken.true) (next_found c.loop-name.invariant.so_far (listed_alike c.in-Some.ensures.steps)) c.of-neighbours.ensures (below _ c.in_ok-location.ensures c.as_str-name.ensures.value) c.as_str-name.ensures.value c.in_ok-part.ensures.built c.in_err-taken.ensures.refused))

pub compile_object-loop-name-preserved-in-Continue-branch-5 : goal.compile_object-loop-name-preserved-in-Continue-branch-5
compile_object-loop-name-preserved-in-Continue-branch-5 g t c =
    record {
      so_far = one_more c.loop-name.invariant.so_far (listed_alike c.in-Some.ensures.steps) (member_built (layer g.L.Leaf.Leaf g.M.Engine.RegexEngine) g.N.BuiltNode.answers (members_view c.args.members.now.entries) c.args.place.now _ _ _ (next_taken c.loop-name.invariant.so_far (listed_alike c.in-Some.ensures.steps) (subst (λ x. c.is_taken.result ≡ is_taken (planned c.of-plan.result) x) c.as_str-name.ensures.value c.is_taken.ensures) c.if-not-is_taken.true) (next_found c.loop-name.invariant.so_far (listed_alike c.in-Some.ensures.steps)) c.of-neighbours.ensures (below _ c.in_ok-location.ensures c.as_str-name.ensures.value) c.as_str-name.ensures.value c.in_ok-part.ensures.built c.in_ok-taken.ensures.built c.loop-name.invariant.so_far.distinct c.loop-name.invariant.so_far.plan (c.in_ok-append_taking.ensures (layer g.L.Leaf.Leaf g.M.Engine.RegexEngine)).makes) (c.in_ok-append_taking.ensures (layer g.L.Leaf.Leaf g.M.Engine.RegexEngine)).behind;
      before = c.loop-name.invariant.before ++ (c.in-Some.name.now, c.in-Some.value.now) ∷ [];
      entries = append_assoc c.loop-name.invariant.before ((c.in-Some.name.now, c.in-Some.value.now) ∷ []) c.next.new.self
          ∙ ap (λ l. c.loop-name.invariant.before ++ l) (sym c.in-Some.ensures.steps) ∙ c.loop-name.invariant.entries;
      next = tt;
      ends = tt;
    }

pub compile_object-returns-in_err-append_taking-clause-refused : goal.compile_object-returns-in_err-append_taking-clause-refused
compile_object-returns-in_err-append_taking-clause-refused g t c =
    exit _ _ _ c.from_residual-in_err-append_taking.ensures.1 (λ e q. next_refused c.loop-name.invariant.so_far (listed_alike c.in-Some.ensures.steps) (read_memory (layer g.L.Leaf.Leaf g.M.Engine.RegexEngine) g.N.BuiltNode.answers (members_view c.args.members.now.entries) c.args.place.now _ _ _ (next_taken c.loop-name.invariant.so_far (listed_alike c.in-Some.ensures.steps) (subst (λ x. c.is_taken.result ≡ is_taken (planned c.of-plan.result) x) c.as_str-name.ensures.value c.is_taken.ensures) c.if-not-is_taken.true) (next_found c.loop-name.invariant.so_far (listed_alike c.in-Some.ensures.steps)) c.of-neighbours.ensures (below _ c.in_ok-location.ensures c.as_str-name.ensures.value) c.as_str-name.ensures.value c.in_ok-part.ensures.built c.in_ok-taken.ensures.built e q))

pub compile_object-returns-in_err-append_alone-clause-refused : goal.compile_object-returns-in_err-append_alone-clause-refused
compile_object-returns-in_err-append_alone-clause-refused g t c =
    exit _ _ _ c.from_residual-in_err-append_alone.ensures.1 (λ e q. next_refused c.loop-name.invariant.so_far (listed_alike c.in-Some.ensures.steps) (alone_memory (layer g.L.Leaf.Leaf g.M.Engine.RegexEngine) g.N.BuiltNode.answers (members_view c.args.members.now.entries) c.args.place.now _ _ _ (next_taken c.loop-name.invariant.so_far (listed_alike c.in-Some.ensures.steps) (subst (λ x. c.is_taken.result ≡ is_taken (planned c.of-plan.result) x) c.as_str-name.ensures.value c.is_taken.ensures) c.if-not-is_taken.true) (next_found c.loop-name.invariant.so_far (listed_alike c.in-Some.ensures.steps)) c.of-neighbours.ensures (below _ c.in_ok-location.ensures c.as_str-name.ensures.value) c.as_str-name.ensures.value c.in_ok-part.ensures.built c.takes_any.ensures c.if-takes_any.false e q))

pub compile_object-loop-name-preserved-in-Continue-branch-6 : goal.compile_object-loop-name-preserved-in-Continue-branch-6
compile_object-loop-name-preserved-in-Continue-branch-6 g t c =
    record {
      so_far = one_more c.loop-name.invariant.so_far (listed_alike c.in-Some.ensures.steps) (alone_built (layer g.L.Leaf.Leaf g.M.Engine.RegexEngine) g.N.BuiltNode.answers (members_view c.args.members.now.entries) c.args.place.now _ _ _ (next_taken c.loop-name.invariant.so_far (listed_alike c.in-Some.ensures.steps) (subst (λ x. c.is_taken.result ≡ is_taken (planned c.of-plan.result) x) c.as_str-name.ensures.value c.is_taken.ensures) c.if-not-is_taken.true) (next_found c.loop-name.invariant.so_far (listed_alike c.in-Some.ensures.steps)) c.of-neighbours.ensures (below _ c.in_ok-location.ensures c.as_str-name.ensures.value) c.as_str-name.ensures.value c.in_ok-part.ensures.built c.takes_any.ensures c.if-takes_any.false c.loop-name.invariant.so_far.distinct c.loop-name.invariant.so_far.plan (c.in_ok-append_alone.ensures (layer g.L.Leaf.Leaf g.M.Engine.RegexEngine)).makes) (c.in_ok-append_alone.ensures (layer g.L.Leaf.Leaf g.M.Engine.RegexEngine)).behind;
      before = c.loop-name.invariant.before ++ (c.in-Some.name.now, c.in-Some.value.now) ∷ [];
      entries = append_assoc c.loop-name.invariant.before ((c.in-Some.name.now, c.in-Some.value.now) ∷ []) c.next.new.self
          ∙ ap (λ l. c.loop-name.invariant.before ++ l) (sym c.in-Some.ensures.steps) ∙ c.loop-name.invariant.entries;
      next = tt;
      ends = tt;
    }

pub compile_object-loop-name-preserved : goal.compile_object-loop-name-preserved
compile_object-loop-name-preserved g t c =
    record {
      so_far = one_more c.loop-name.invariant.so_far (listed_alike c.in-Some.ensures.steps) (taken_built (layer g.L.Leaf.Leaf g.M.Engine.RegexEngine) g.N.BuiltNode.answers (members_view c.args.members.now.entries) c.args.place.now _ _ _ (next_taken c.loop-name.invariant.so_far (listed_alike c.in-Some.ensures.steps) (subst (λ x. c.is_taken.result ≡ is_taken (planned c.of-plan.result) x) c.as_str-name.ensures.value c.is_taken.ensures) c.if-not-is_taken.false)) (sym (append-nil _));
      before = c.loop-name.invariant.before ++ (c.in-Some.name.now, c.in-Some.value.now) ∷ [];
      entries = append_assoc c.loop-name.invariant.before ((c.in-Some.name.now, c.in-Some.value.now) ∷ []) c.next.new.self
          ∙ ap (λ l. c.loop-name.invariant.before ++ l) (sym c.in-Some.ensures.steps) ∙ c.loop-name.invariant.entries;
      next = tt;
      ends = tt;
    }

pub compile_object-returns-clause-built : goal.compile_object-returns-clause-built
compile_object-returns-clause-built g t c = object_is_built c.loop-name.invariant.so_far (listed_alike c.in-None.ensures.steps.0)
