use Rattle.std.proofs.Common.{◌<◌, subst, sym, arith}
use Rattle.std.proofs.Math.Nat.{mul-pos}
use Rattle.olk_numbers.proofs.Powers.{scaled_below, ten_pos}
use Rattle.olk_numbers.proofs.divisors.Divisor.divides_decimal.Goals as goal

pub scaled-step-requires-clause-fits : goal.scaled-step-requires-clause-fits
scaled-step-requires-clause-fits c =
    scaled_below c.args.self.decimal.digits c.args.decimal.places (c.args.self.few_digits (omega arith)) c.requires.few_places

pub scaled-requires-clause-fits : goal.scaled-requires-clause-fits
scaled-requires-clause-fits c =
    scaled_below c.args.decimal.digits c.args.self.decimal.places c.requires.few_digits c.args.self.few_places

pub nonzero_rem-result : goal.nonzero_rem-result
nonzero_rem-result c =
    subst (λ n. 0 < n) (sym c.scaled-step.ensures) (mul-pos c.args.self.above_zero (ten_pos c.args.decimal.places))
