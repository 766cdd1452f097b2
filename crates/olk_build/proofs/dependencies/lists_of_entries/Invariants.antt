use Rattle.olk_spec.specs.Malformed.{not_a_text}
use Rattle.olk_build.specs.Reading.{names_in_list, list_of}
use Rattle.olk_build.proofs.ReadEntries.{EntriesSoFar}
use Rattle.olk_build.proofs.dependencies.lists_of_entries.Given as goal

-- the lists so far are those of the entries so far, and these are right
abbrev pub invariant-loop-value : goal.invariant-loop-value
invariant-loop-value l = EntriesSoFar names_in_list (λ e. list_of e.1) (λ e. not_a_text e.1 l.location) l.lists.items l.value-iterator l.entries.entries
