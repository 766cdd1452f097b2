use Rattle.olk_build.proofs.Spending.{exit_with}
use Rattle.olk_build.proofs.ReadEntries.{none_so_far, one_more_entry, entry_refused, entries_shown, entries_right}
use Rattle.olk_build.proofs.dependencies.lists_of_entries.Goals as goal

pub loop-value-init : goal.loop-value-init
loop-value-init c = none_so_far c.new-lists.ensures.items c.into_iter-value-iterator.ensures.into_iter_gives.0

pub loop-value-preserved : goal.loop-value-preserved
loop-value-preserved c = one_more_entry c.loop-value.invariant c.in-Some.ensures.steps c.in_ok-append.ensures.items c.in_ok-list.ensures.list c.in_ok-list.ensures.texts

pub returns-in_err-list-clause-refused : goal.returns-in_err-list-clause-refused
returns-in_err-list-clause-refused c =
    exit_with _ _ _ c.from_residual.ensures.1 (entry_refused c.loop-value.invariant c.in-Some.ensures.steps _ c.in_err-list.ensures.refused)

pub returns-clause-lists : goal.returns-clause-lists
returns-clause-lists c = entries_shown c.loop-value.invariant c.in-None.ensures.steps.0

pub returns-clause-texts : goal.returns-clause-texts
returns-clause-texts c = entries_right c.loop-value.invariant c.in-None.ensures.steps.0
