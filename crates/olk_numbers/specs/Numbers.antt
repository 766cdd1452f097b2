-- Numbers of JSON by their values: whole numbers of 64 bits as they are, and every other number as the double that was read.
use Rattle.std.specs.Prelude.{ℕ, suc, ◌*◌, ◌/◌, ◌%◌, ◌==◌, ◌&&◌, ◌||◌, Bool, true, false, ℤ, pos, negsuc, Option, Some, None, if◌then◌else◌}
use Rattle.std.specs.Float.{Float, nan, inf, fin, two_to, minus_two_to, float_zero}
use Rattle.std.specs.Float.Ieee.{up, down, lt, le, eq}
use Rattle.serde_json.specs.Data.{Num, unsigned, negative, float, Data, number}
use Rattle.olk_numbers.specs.declared.numbers.JsonNumber.{JsonNumber}
use Rattle.olk_numbers.specs.declared.numbers.JsonNumber.TheVariants.{Unsigned, Negative, Float as Double}

abbrev pub num_of : JsonNumber → Num
num_of (Unsigned n) = unsigned n
num_of (Negative z) = negative z
num_of (Double x) = float x

-- a whole number, without rounding
abbrev pub of_whole : ℤ → Float
of_whole (pos n) = fin false n (pos 0)
of_whole (negsuc n) = fin true (suc n) (pos 0)

abbrev pub exact : Num → Float
exact (unsigned n) = of_whole (pos n)
exact (negative z) = of_whole z
exact (float x) = x

abbrev pub is_below : Num → Num → Bool
is_below m n = lt (exact m) (exact n)

abbrev pub is_same_number : Num → Num → Bool
is_same_number m n = eq (exact m) (exact n)

abbrev pub is_at_most : Num → Num → Bool
is_at_most m n = is_below m n || is_same_number m n

-- no fraction: 1.0 and 1e300 have none
abbrev pub is_integral : Float → Bool
is_integral nan = false
is_integral (inf s) = false
is_integral (fin s m e) = (m * up e) % down e == 0

-- whole numbers of more bits are read as this double, as -2 ^ 63 - 1 is as -2 ^ 63
abbrev pub is_beyond_64_bits : Float → Bool
is_beyond_64_bits x = le x (minus_two_to 63) || le (two_to 64) x

-- written without a fraction, as an integer of draft 4 is: a whole number of 64 bits is not read as a double, and a longer one is
abbrev pub is_written_whole : Num → Bool
is_written_whole (unsigned n) = true
is_written_whole (negative z) = true
is_written_whole (float x) = is_integral x && is_beyond_64_bits x

-- a whole number from 0 to 2 ^ 64 - 1
abbrev pub is_natural : Float → Bool
is_natural x = le float_zero x && (lt x (two_to 64) && is_integral x)

-- the whole part of a double, without its sign
abbrev pub whole_part : Float → ℕ
whole_part nan = 0
whole_part (inf s) = 0
whole_part (fin s m e) = m * up e / down e

abbrev pub natural_float : Float → Option ℕ
natural_float x = if is_natural x then Some (whole_part x) else None

-- the whole number from 0 to 2 ^ 64 - 1 that a number is, as 2.0 is 2
abbrev pub natural_of : Num → Option ℕ
natural_of (unsigned n) = Some n
natural_of (negative z) = None
natural_of (float x) = natural_float x

-- the whole number from 0 to 2 ^ 64 - 1 that a value is
abbrev pub natural : Data → Option ℕ
natural (number n) = natural_of n
natural x = None
