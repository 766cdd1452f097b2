use Rattle.std.proofs.Common.{◌≡◌, ◌≤◌, length}
use Rattle.olk_regexes.specs.Escapes.{code_from}
use Rattle.olk_regexes.proofs.escapes.read_code.Given as goal

abbrev pub invariant-loop-rest : goal.invariant-loop-rest
invariant-loop-rest l = (l.code ≤ 20000000) × (code_from l.code l.rest ≡ code_from l.fn.from l.fn.text)

abbrev pub decreases-loop-rest : goal.decreases-loop-rest
decreases-loop-rest l = length l.rest
