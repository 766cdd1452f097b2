-- Multiples of any number above 0 (JSON Schema 2020-12 Validation 6.2.1).
use Rattle.std.specs.Prelude.{ℕ, ◌*◌, ◌%◌, ◌^◌, ◌==◌, ◌&&◌, nat_le, nat_lt, Bool, false, Option, Some, None, if◌then◌else◌}
use Rattle.std.specs.Option.{option_and_then, option_map_or}
use Rattle.std.specs.Float.{Float, float_zero, float_with_sign}
use Rattle.std.specs.Float.Ieee.{lt}
use Rattle.serde_json.specs.Data.{Num, unsigned, negative, float}
use Rattle.olk_numbers.specs.Decimals.{decimal_of}
use Rattle.olk_numbers.specs.Numbers.{exact, is_integral, natural_float, whole_part}
use Rattle.olk_numbers.specs.declared.decimals.Decimal.{Decimal}

-- ---- what is divided by

abbrev pub whole_divisor : ℕ → Option Decimal
whole_divisor n = if nat_le 1 n then Some (record { digits = n; places = 0 }) else None

-- a whole number below 2 ^ 64 is itself, as 2.0 is 2, and a fraction is its decimal
abbrev pub double_divisor : Float → Option Decimal
double_divisor x =
    if is_integral x then option_and_then whole_divisor (natural_float x)
    else if lt float_zero x then decimal_of x
    else None

-- the digits and places of a number above 0, where they are known
unfoldable pub divisor_of : Num → Option Decimal
divisor_of (unsigned n) = whole_divisor n
divisor_of (negative z) = None
divisor_of (float x) = double_divisor x

-- ---- what is divided

-- w is a whole number times digits / 10 ^ places
abbrev pub whole_is_multiple : ℕ → Decimal → Bool
whole_is_multiple w d = (w * 10 ^ d.places) % d.digits == 0

-- and so is a decimal; one with a fraction is no multiple of a whole number
abbrev pub decimal_is_multiple : Decimal → Decimal → Bool
decimal_is_multiple c d = nat_lt 0 d.places && ((c.digits * 10 ^ d.places) % (d.digits * 10 ^ c.places) == 0)

abbrev pub fraction_is_multiple : Float → Decimal → Bool
fraction_is_multiple x d = option_map_or (λ c. decimal_is_multiple c d) (decimal_of (float_with_sign false x)) false

-- a whole number by its exact value, and a fraction by its decimal
abbrev pub double_is_multiple : Float → Decimal → Bool
double_is_multiple x d = if is_integral x then whole_is_multiple (whole_part x) d else fraction_is_multiple x d

unfoldable pub is_multiple_of : Num → Num → Bool
unfolding divisor_of
is_multiple_of m n = option_map_or (λ d. double_is_multiple (exact m) d) (divisor_of n) false
