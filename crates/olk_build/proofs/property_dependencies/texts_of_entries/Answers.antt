use Rattle.std.proofs.Common.{map-id, sym, ◌∙◌}
use Rattle.olk_build.proofs.ReadEntries.{below, none_so_far, one_more_entry, entry_refused, entries_shown, entries_right}
use Rattle.olk_build.proofs.{Spending.exit_with, Read.object_is_right}
use Rattle.olk_build.proofs.property_dependencies.texts_of_entries.Goals as goal

pub loop-key-init : goal.loop-key-init
loop-key-init c = none_so_far c.new-texts.ensures.items c.into_iter-key-iterator.ensures.into_iter_gives.0

pub loop-key-preserved : goal.loop-key-preserved
loop-key-preserved c =
    one_more_entry c.loop-key.invariant c.in-Some.ensures.steps c.in_ok-append.ensures.items c.in_ok-names.ensures.names (object_is_right _ _ c.in_ok-names.ensures.object)

pub returns-in_err-names-clause-refused : goal.returns-in_err-names-clause-refused
returns-in_err-names-clause-refused c =
    exit_with _ _ _ c.from_residual-in_err-names.ensures.1 (entry_refused c.loop-key.invariant c.in-Some.ensures.steps _
    (rw (below c.args.location.now c.in_ok-place.ensures c.as_str.ensures.value) at c.in_err-names.ensures.refused))

pub returns-clause-names : goal.returns-clause-names
returns-clause-names c = sym (map-id c.loop-key.texts.items) ∙ entries_shown c.loop-key.invariant c.in-None.ensures.steps.0

pub returns-clause-objects : goal.returns-clause-objects
returns-clause-objects c = entries_right c.loop-key.invariant c.in-None.ensures.steps.0
