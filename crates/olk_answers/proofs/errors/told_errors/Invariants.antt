-- What is told so far is what is told of the errors so far.
use Rattle.std.proofs.Common.{◌≡◌, map, take}
use Rattle.olk_reports.specs.Errors.{fault_of}
use Rattle.olk_answers.specs.Told.{told, shown, PrintNoFraction}
use Rattle.olk_answers.proofs.errors.told_errors.Given as goal

abbrev pub invariant-loop-error : goal.invariant-loop-error
invariant-loop-error l = PrintNoFraction (map fault_of l.errors) → map shown l.told.items ≡ map told (map fault_of (take l.error-index l.errors))
