use Rattle.std.proofs.Common.{arith}
use Rattle.olk_numbers.proofs.Powers.{whole_scaled_below}
use Rattle.olk_numbers.proofs.divisors.Divisor.divides_remainder.Goals as goal

pub scaled-requires-clause-fits : goal.scaled-requires-clause-fits
scaled-requires-clause-fits c =
    whole_scaled_below c.args.remainder c.args.self.decimal.places c.ranges.remainder.fits c.args.self.few_places (λ p. omega (arith, c.requires, c.args.self.few_digits p))
