-- The values so far are those of the errors so far.
use Rattle.std.proofs.Common.{◌≡◌, map, take}
use Rattle.serde_json.specs.View.{view}
use Rattle.olk_answers.specs.Told.{shown, error_data}
use Rattle.olk_answers.proofs.errors.error_values.Given as goal

abbrev pub invariant-loop-error : goal.invariant-loop-error
invariant-loop-error l = map view l.values.items ≡ map error_data (map shown (take l.error-index l.told))
