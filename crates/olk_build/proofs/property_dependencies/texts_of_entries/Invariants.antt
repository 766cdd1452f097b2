use Rattle.olk_spec.specs.Names.{Name, ◌//◌}
use Rattle.olk_spec.specs.Malformed.{unless_object}
use Rattle.std.proofs.Common.{List}
use Rattle.olk_build.specs.Reading.{names_of}
use Rattle.olk_build.proofs.ReadEntries.{EntriesSoFar}
use Rattle.olk_build.proofs.property_dependencies.texts_of_entries.Given as goal

-- the texts so far are those of the entries so far, and these are right
abbrev pub invariant-loop-key : goal.invariant-loop-key
invariant-loop-key l = EntriesSoFar (λ (n : List Name). n) (λ e. names_of e.1) (λ e. unless_object e.1 (l.location // e.0)) l.texts.items l.key-iterator l.entries.entries
