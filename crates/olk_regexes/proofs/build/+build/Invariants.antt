use Rattle.std.proofs.Common.{◌≡◌}
use Rattle.olk_regexes.specs.Marks.{expr}
use Rattle.olk_regexes.specs.Syntax.{up_to_more, times_then}
use Rattle.olk_regexes.specs.Trees.{expr_of}
use Rattle.olk_regexes.proofs.build.+build.Given as goal

abbrev pub invariant-times_then-loop : goal.invariant-times_then-loop
invariant-times_then-loop l = expr l.all.regex ≡ times_then l.counter (expr_of l.part) (expr l.fn.last.regex)

abbrev pub invariant-up_to_more-loop : goal.invariant-up_to_more-loop
invariant-up_to_more-loop l = expr l.all.regex ≡ up_to_more l.counter (expr_of l.part)
