use Rattle.std.proofs.Common.{◌≡◌}
use Rattle.olk_regexes.proofs.pattern.characters.Given as goal

abbrev pub invariant-loop-c : goal.invariant-loop-c
invariant-loop-c l = l.all.items ≡ l.yielded
