-- The values so far are those of the entries so far.
use Rattle.std.proofs.Common.{◌≡◌, map, take}
use Rattle.serde_json.specs.View.{view}
use Rattle.olk_reports.specs.Entries.{error_of}
use Rattle.olk_answers.specs.Evaluated.{description_data}
use Rattle.olk_answers.proofs.evaluated.description_values.Given as goal

abbrev pub invariant-loop-entry : goal.invariant-loop-entry
invariant-loop-entry l = map view l.values.items ≡ map description_data (map error_of (take l.entry-index l.entries))
