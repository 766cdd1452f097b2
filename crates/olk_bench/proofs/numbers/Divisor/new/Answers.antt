use Rattle.std.proofs.Common.{rules}
use Rattle.olk_bench.proofs.numbers.Divisor.new.Goals as goal

pub invariant_of-result : goal.invariant_of-result
invariant_of-result c = search rules
