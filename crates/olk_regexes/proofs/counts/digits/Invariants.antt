use Rattle.std.proofs.Common.{◌≡◌, ◌≤◌, length}
use Rattle.olk_regexes.specs.Counts.{number_from}
use Rattle.olk_regexes.proofs.counts.digits.Given as goal

abbrev pub invariant-loop-rest : goal.invariant-loop-rest
invariant-loop-rest l = (l.n ≤ 1000000) × (number_from l.n l.rest ≡ number_from l.fn.from l.fn.text)

abbrev pub decreases-loop-rest : goal.decreases-loop-rest
decreases-loop-rest l = length l.rest
