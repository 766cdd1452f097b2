use Rattle.std.proofs.Common.{◌≡◌, ◌||◌, drop}
use Rattle.serde_json.specs.Data.{Data}
use Rattle.olk_vocabulary.specs.Candidates.{is_among, is_kept}
use Rattle.olk_vocabulary.proofs.candidates.Candidates.new.Given as goal

abbrev pub invariant-loop-value : goal.invariant-loop-value
invariant-loop-value l = (v : Data) → is_among l.value-items v ≡ (is_kept l.kept v || is_among (drop l.value-index l.value-items) v)
