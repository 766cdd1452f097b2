-- How a quantifier is read.
use Rattle.std.specs.Prelude.{ℕ, ◌+◌, ◌-◌, ◌*◌, ◌==◌, [], ◌∷◌, Option, Some, None, if◌then◌else◌}
use Rattle.std.specs.Char.{is_ascii_digit}
use lib.Dec.{leb}
use Rattle.olk_regexes.specs.Language.{Text}
use Rattle.olk_regexes.specs.Escapes.{Read, next}

-- A number's digits. All numbers from 1,000,000 on are read as that: no count is as large.
abbrev pub number_from : ℕ → Text → ℕ × Text
number_from n [] = (n, [])
number_from n (c ∷ w) = if is_ascii_digit c then number_from (if leb 100000 n then 1000000 else n * 10 + (c - 48)) w else (n, c ∷ w)

-- a number, of which at least one digit is there
abbrev pub number : Text → Read ℕ
number [] = None
number (c ∷ w) = if is_ascii_digit c then Some (number_from 0 (c ∷ w)) else None

-- how often: at least, and at most, if there is a limit
abbrev pub Counts : Type 0
Counts = ℕ × Option ℕ

abbrev pub closing : Counts → Text → Read Counts
closing k [] = None
closing k (c ∷ w) = if c == 125 then Some (k, w) else None

abbrev pub counts_most : ℕ → Text → Read Counts
counts_most n [] = None
counts_most n (c ∷ w) = if c == 125 then Some ((n, None), w) else
    next (number (c ∷ w)) (λ m v. if leb n m then closing (n, Some m) v else None)

abbrev pub counts_end : ℕ → Text → Read Counts
counts_end n [] = None
counts_end n (c ∷ w) = if c == 125 then Some ((n, Some n), w) else
    if c == 44 then counts_most n w else None

-- a lazy quantifier is as often as another
abbrev pub lazy : Counts → Text → Read Counts
lazy k [] = Some (k, [])
lazy k (c ∷ w) = Some (k, if c == 63 then w else c ∷ w)

-- a quantifier, or none
abbrev pub counts : Text → Read Counts
counts [] = Some ((1, Some 1), [])
counts (c ∷ w) =
    if c == 42 then lazy (0, None) w else
    if c == 43 then lazy (1, None) w else
    if c == 63 then lazy (0, Some 1) w else
    if c == 123 then next (next (number w) counts_end) lazy else Some ((1, Some 1), c ∷ w)
