use Rattle.std.proofs.Common.{◌≡◌, length}
use Rattle.olk_regexes.specs.Escapes.{behind}
use Rattle.olk_regexes.proofs.names.behind.Given as goal

abbrev pub invariant-loop-left : goal.invariant-loop-left
invariant-loop-left l = behind l.left l.rest ≡ behind l.fn.name l.fn.text

abbrev pub decreases-loop-left : goal.decreases-loop-left
decreases-loop-left l = length l.left
