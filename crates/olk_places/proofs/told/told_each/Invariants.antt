-- What is told so far is what is told of the errors so far.
use Rattle.std.proofs.Common.{◌≡◌, map, take, vec_len}
use Rattle.std.specs.List.{All}
use Rattle.olk_reports.specs.Errors.{fault_of}
use Rattle.olk_answers.specs.Told.{told, PrintNoFraction}
use Rattle.olk_places.specs.Told.{shown, IsOf}
use Rattle.olk_places.proofs.told.told_each.Given as goal

abbrev pub invariant-loop-error : goal.invariant-loop-error
invariant-loop-error l = (vec_len l.told ≡ l.error-index) × (PrintNoFraction (map fault_of l.errors) → map shown l.told.items ≡ map told (map fault_of (take l.error-index l.errors))) × All (IsOf l.errors) l.told.items
