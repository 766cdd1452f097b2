use Rattle.std.proofs.Common.{sym, ◌∙◌}
use Rattle.olk_numbers.specs.Numbers.{num_of}
use Rattle.olk_numbers.proofs.Divisions.{divisor_can}
use Rattle.olk_numbers.proofs.divisors.Divisor.of.Goals as goal

pub invariant_of-result : goal.invariant_of-result
invariant_of-result c =
    let stands = sym c.decimal_divisor.ensures ∙ c.in-Some.is in
    let can = divisor_can (num_of c.of-number.result) c.in-Some.decimal stands in
    record { stands = stands; above_zero = can.above_zero; few_places = can.few_places; few_digits = can.few_digits }
