-- The leaves and the matcher of the bench.
use Rattle.std.specs.Prelude.{ℕ, ◌%◌, Bool, true, false, not, ◌||◌, ◌==◌, cond, ◌&&◌, if◌then◌else◌, nat_eq, nat_le, ℤ, pos, int_le, unsigned_abs, List, [], ◌∷◌, ◌++◌, drop, length, Option, Some, None, is_some, codes, bytes_eq, chars, encode_utf8_all}
use Rattle.std.specs.List.{starts_with, ends_with}
use Rattle.std.specs.Option.{option_map_or}
use Rattle.serde_json.specs.Data.{Num, unsigned, negative, float, Data, null, boolean, number, string, array, object}
use Rattle.serde_json.specs.Find.{is_float}
use Rattle.serde_json.specs.Written.{compact_text, has_float}
use Rattle.olk_spec.specs.Names.{Text, Name, is_among, is_empty, put_if}
use Rattle.olk_spec.specs.Literals.{body_of}
use Rattle.olk_spec.specs.World.{World, Says, matched, unmatched, unfinished}

-- ---- leaves

pub data Leaf_keyword : Type 0 where
  type_keyword const_keyword minimum maximum multiple_of min_length max_length : Leaf_keyword

abbrev pub leaf_named : Name → Option Leaf_keyword
leaf_named n =
    if bytes_eq n (codes "type") then Some type_keyword
    else if bytes_eq n (codes "const") then Some const_keyword
    else if bytes_eq n (codes "minimum") then Some minimum
    else if bytes_eq n (codes "maximum") then Some maximum
    else if bytes_eq n (codes "multipleOf") then Some multiple_of
    else if bytes_eq n (codes "minLength") then Some min_length
    else if bytes_eq n (codes "maxLength") then Some max_length
    else None

-- ---- what a leaf takes

-- the names of the kinds of values
abbrev pub kind_names : List Name
kind_names = codes "null" ∷ codes "boolean" ∷ codes "integer" ∷ codes "number" ∷ codes "string" ∷ codes "array" ∷ codes "object" ∷ []

abbrev pub names_kind : Data → Bool
names_kind (string s) = is_among s kind_names
names_kind x = false

-- a whole number of 64 bits
abbrev pub is_whole : Data → Bool
is_whole (number n) = not (is_float n)
is_whole x = false

abbrev pub is_constant : Data → Bool
is_constant (string s) = true
is_constant x = is_whole x

-- a whole number that is not below `least`
abbrev pub is_natural_from : ℕ → Data → Bool
is_natural_from least (number (unsigned m)) = nat_le least m
is_natural_from least x = false

abbrev pub takes : Leaf_keyword → Data → Bool
takes type_keyword x = names_kind x
takes const_keyword x = is_constant x
takes minimum x = is_whole x
takes maximum x = is_whole x
takes multiple_of x = is_natural_from 1 x
takes min_length x = is_natural_from 0 x
takes max_length x = is_natural_from 0 x

-- ---- what a leaf says

-- how a value stands in a text: no digits are promised for a number that is not whole
abbrev pub shown : Data → Text
shown v = cond (has_float v) (codes "value") (compact_text v)

-- one text where the test fails
abbrev pub unless : Bool → Text → List Text
unless ok t = put_if (not ok) t []

abbrev pub is_of_kind : Name → Data → Bool
is_of_kind k null = bytes_eq k (codes "null")
is_of_kind k (boolean b) = bytes_eq k (codes "boolean")
is_of_kind k (number n) = bytes_eq k (codes "number") || (bytes_eq k (codes "integer") && not (is_float n))
is_of_kind k (string s) = bytes_eq k (codes "string")
is_of_kind k (array ds) = bytes_eq k (codes "array")
is_of_kind k (object ms) = bytes_eq k (codes "object")

abbrev pub type_faults : Data → Data → List Text
type_faults (string k) v = unless (is_of_kind k v) (shown v ++ codes " is not of type " ++ compact_text (string k))
type_faults x v = []

-- a whole number's value
abbrev pub whole_value : Num → ℤ
whole_value (unsigned n) = pos n
whole_value (negative z) = z
whole_value (float x) = pos 0

-- a constant and the same value
abbrev pub is_same_number : Num → Num → Bool
is_same_number (unsigned m) (unsigned n) = nat_eq m n
is_same_number (negative y) (negative z) = int_le y z && int_le z y
is_same_number m n = false

abbrev pub is_same : Data → Data → Bool
is_same (number m) (number n) = is_same_number m n
is_same (string s) (string t) = bytes_eq s t
is_same x v = false

abbrev pub const_faults : Data → Data → List Text
const_faults x v = unless (is_same x v) (compact_text x ++ codes " was expected")

-- these three look at whole numbers alone
abbrev pub minimum_faults : Data → Data → List Text
minimum_faults (number m) (number n) = unless (is_float n || int_le (whole_value m) (whole_value n)) (compact_text (number n) ++ codes " is less than the minimum of " ++ compact_text (number m))
minimum_faults x v = []

abbrev pub maximum_faults : Data → Data → List Text
maximum_faults (number m) (number n) = unless (is_float n || int_le (whole_value n) (whole_value m)) (compact_text (number n) ++ codes " is greater than the maximum of " ++ compact_text (number m))
maximum_faults x v = []

abbrev pub multiple_faults : Data → Data → List Text
multiple_faults (number (unsigned m)) (number n) = unless (is_float n || unsigned_abs (whole_value n) % m == 0) (compact_text (number n) ++ codes " is not a multiple of " ++ compact_text (number (unsigned m)))
multiple_faults x v = []

-- and these two at texts, whose characters they count
abbrev pub shorter_faults : Data → Data → List Text
shorter_faults (number (unsigned m)) (string s) = unless (nat_le m (length (chars s))) (compact_text (string s) ++ codes " is shorter than " ++ compact_text (number (unsigned m)) ++ codes " characters")
shorter_faults x v = []

abbrev pub longer_faults : Data → Data → List Text
longer_faults (number (unsigned m)) (string s) = unless (nat_le (length (chars s)) m) (compact_text (string s) ++ codes " is longer than " ++ compact_text (number (unsigned m)) ++ codes " characters")
longer_faults x v = []

abbrev pub finds : Leaf_keyword → Data → Data → List Text
finds type_keyword x v = type_faults x v
finds const_keyword x v = const_faults x v
finds minimum x v = minimum_faults x v
finds maximum x v = maximum_faults x v
finds multiple_of x v = multiple_faults x v
finds min_length x v = shorter_faults x v
finds max_length x v = longer_faults x v

abbrev pub leaf_reads : Name → Bool
leaf_reads k = is_some (leaf_named k)

abbrev pub leaf_fits : Name → Data → Bool
leaf_fits k x = option_map_or (λ w. takes w x) (leaf_named k) false

abbrev pub leaf_faults : Name → Data → Data → List Text
leaf_faults k x v = option_map_or (λ w. finds w x v) (leaf_named k) []

-- ---- the matcher

pub data Bench_pattern : Type 0 where
  -- a text that is to be in the name: at its start or not, at its end or not
  has_text : Bool → Bool → Text → Bench_pattern
  -- a text at which a match is left unfinished
  slow_text : Text → Bench_pattern

-- `(slow)` and a body
abbrev pub slow_pattern : List ℕ × List ℕ → Option Bench_pattern
slow_pattern r = if is_empty r.0 then None else (if is_empty r.1 then Some (slow_text (encode_utf8_all r.0)) else None)

-- a body, with `$` behind it or without
abbrev pub text_pattern : Bool → List ℕ × List ℕ → Option Bench_pattern
text_pattern at_start r =
    (if is_empty r.0 then None
    else (if is_empty r.1 then Some (has_text at_start false (encode_utf8_all r.0))
    else (if bytes_eq r.1 (codes "$") then Some (has_text at_start true (encode_utf8_all r.0)) else None)))

-- what a pattern is to the matcher, if it takes it
abbrev pub bench_pattern : Text → Option Bench_pattern
bench_pattern p =
    if starts_with nat_eq p (codes "(slow)") then slow_pattern (body_of (chars (drop 6 p)))
    else if starts_with nat_eq p (codes "^") then text_pattern true (body_of (chars (drop 1 p)))
    else text_pattern false (body_of (chars p))

-- the text stands somewhere in the name
abbrev pub is_in : Text → Name → Bool
is_in t [] = is_empty t
is_in t (b ∷ n) = starts_with nat_eq (b ∷ n) t || is_in t n

abbrev pub has_text_at : Bool → Bool → Text → Name → Bool
has_text_at true true t n = bytes_eq n t
has_text_at true false t n = starts_with nat_eq n t
has_text_at false true t n = ends_with nat_eq n t
has_text_at false false t n = is_in t n

abbrev pub bench_pattern_says : Bench_pattern → Name → Says
bench_pattern_says (has_text at_start at_end t) n = cond (has_text_at at_start at_end t n) matched unmatched
bench_pattern_says (slow_text t) n = cond (is_in t n) unfinished unmatched

abbrev pub bench_builds : Text → Bool
bench_builds p = is_some (bench_pattern p)

abbrev pub bench_says : Text → Name → Says
bench_says p n = option_map_or (λ b. bench_pattern_says b n) (bench_pattern p) unmatched

abbrev pub bench : World
bench = record { reads = leaf_reads; fits = leaf_fits; faults = leaf_faults; builds = bench_builds; says = bench_says }
