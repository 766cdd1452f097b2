use Rattle.std.proofs.Common.{◌≡◌, ◌-◌}
use Rattle.olk_numbers.specs.Decimals.{decimal_of, decimal_from}
use Rattle.olk_numbers.proofs.decimals.Decimal.of.Given as goal

abbrev pub invariant-loop-places : goal.invariant-loop-places
invariant-loop-places l = decimal_of l.x ≡ decimal_from l.x l.places (23 - l.places)
