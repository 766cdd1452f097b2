-- Decimals that doubles stand for. What was written is not kept, but for what reads as the same double.
use Rattle.std.specs.Prelude.{◌≡◌, ℕ, zero, suc, ◌^◌, ◌<◌, ◌≤◌, ◌&&◌, nat_lt, Bool, true, false, pos, Option, Some, None, if◌then◌else◌}
use Rattle.std.specs.Option.{option_or}
use Rattle.std.specs.Float.{Float, binary64, float_round}
use Rattle.std.specs.Float.Ieee.{round, eq, mul, of_int, to_unsigned}
use Rattle.olk_numbers.specs.declared.decimals.Decimal.{Decimal}

-- the double nearest to digits / 10 ^ places
abbrev pub nearest_double : Decimal → Float
nearest_double d = round binary64 false d.digits (10 ^ d.places)

-- the digits and the power of ten are doubles themselves
pub record IsShort (d : Decimal) : Type 0 where
  pub above_zero : 0 < d.digits
  pub few_digits : d.digits < 2 ^ 53
  pub few_places : d.places ≤ 22

-- the decimal is short, and the double nearest to it is x
pub record ReadsAs (x : Float) (d : Decimal) : Type 0 where
  pub is_short : IsShort d
  pub is_nearest : eq (nearest_double d) x ≡ true

-- the same as a test, of a decimal with at most 22 places
abbrev pub reads_as : Float → Decimal → Bool
reads_as x d = nat_lt 0 d.digits && (nat_lt d.digits (2 ^ 53) && eq (nearest_double d) x)

-- with p places the one candidate: x * 10 ^ p, rounded to a double and then to a whole number
abbrev pub candidate : Float → ℕ → Decimal
candidate x p = record { digits = to_unsigned 64 (float_round binary64 (mul binary64 x (of_int binary64 (pos (10 ^ p))))); places = p }

abbrev pub decimal_at : Float → ℕ → Option Decimal
decimal_at x p = if reads_as x (candidate x p) then Some (candidate x p) else None

-- the first candidate that reads as x, with one of n numbers of places from p on
unfoldable pub decimal_from : Float → ℕ → ℕ → Option Decimal
decimal_from x p zero = None
decimal_from x p (suc n) = option_or (decimal_at x p) (decimal_from x (suc p) n)

-- the decimal of the fewest places, from none to 22
unfoldable pub decimal_of : Float → Option Decimal
unfolding decimal_from
decimal_of x = decimal_from x 0 23
