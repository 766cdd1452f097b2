-- Whole numbers of 64 bits, as numbers of JSON.
use Rattle.std.specs.Prelude.{Option, Some, None}
use Rattle.serde_json.specs.Data.{Num, unsigned, negative, float, Data, number}
use Rattle.olk_bench.specs.declared.numbers.WholeNumber.{WholeNumber}
use Rattle.olk_bench.specs.declared.numbers.WholeNumber.TheVariants.{Unsigned, Negative}

abbrev pub num_of : WholeNumber → Num
num_of (Unsigned n) = unsigned n
num_of (Negative z) = negative z

abbrev pub as_whole : Num → Option Num
as_whole (unsigned n) = Some (unsigned n)
as_whole (negative z) = Some (negative z)
as_whole (float x) = None

-- the whole number that a value is
abbrev pub whole_in : Data → Option Num
whole_in (number n) = as_whole n
whole_in v = None
