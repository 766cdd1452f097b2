use Rattle.olk_build.specs.Reading.{names_in}
use Rattle.olk_build.proofs.ReadEntries.{EntriesSoFar}
use Rattle.olk_spec.specs.{Schemas.texts, Malformed.name_list_refusals}
use Rattle.olk_build.proofs.dependencies.names_of_entries.Given as goal

-- the names so far are those of the entries so far, and these are right
abbrev pub invariant-loop-key : goal.invariant-loop-key
invariant-loop-key l = EntriesSoFar names_in (λ e. texts e.1) (λ e. name_list_refusals e.0 e.1 l.location) l.required.items l.key-iterator l.entries.entries
