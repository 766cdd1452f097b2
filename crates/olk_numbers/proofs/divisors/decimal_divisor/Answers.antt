use Rattle.std.proofs.Common.{refl}
use Rattle.olk_numbers.specs.Multiples.{divisor_of}
use Rattle.olk_numbers.proofs.divisors.decimal_divisor.Goals as goal

pub returns-in-Unsigned : goal.returns-in-Unsigned
unfolding divisor_of
returns-in-Unsigned c = rw c.in-Unsigned.is c.whole_divisor.ensures

pub returns-in-Negative : goal.returns-in-Negative
unfolding divisor_of
returns-in-Negative c = rw c.in-Negative.is refl

pub returns-in-Float : goal.returns-in-Float
unfolding divisor_of
returns-in-Float c = rw c.in-Float.is c.double_divisor.ensures
