use Rattle.std.proofs.Common.{◌≡◌, length, map}
use Rattle.serde_json.specs.View.{view}
use Rattle.olk_vocabulary.specs.Unique.{are_unique}
use Rattle.olk_vocabulary.proofs.unique.are_unique.Given as goal

abbrev pub invariant-loop-rest : goal.invariant-loop-rest
invariant-loop-rest l = are_unique (map view l.items) ≡ are_unique (map view l.rest)

abbrev pub decreases-loop-rest : goal.decreases-loop-rest
decreases-loop-rest l = length l.rest
