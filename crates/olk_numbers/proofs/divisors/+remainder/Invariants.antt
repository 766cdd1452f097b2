use Rattle.olk_numbers.specs.Numbers.{whole_part}
use Rattle.olk_numbers.proofs.divisors.+remainder.Given as goal

abbrev pub decreases-remainder : goal.decreases-remainder
decreases-remainder l = whole_part l.x
