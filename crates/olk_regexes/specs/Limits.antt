-- How large an expression may be.
use Rattle.std.specs.Prelude.{ℕ, ◌+◌, Bool, ◌&&◌, max, length, Option, Some, None, if◌then◌else◌}
use lib.Dec.{leb}
use Rattle.olk_regexes.specs.Language.{Expr, blank, one, seq, alt, star}

-- how many marks it has: one a sequence and one a star
abbrev pub marks_of : Expr → ℕ
marks_of blank = 0
marks_of (one negated members) = 0
marks_of (seq p q) = 1 + marks_of p + marks_of q
marks_of (alt p q) = marks_of p + marks_of q
marks_of (star p) = 1 + marks_of p

-- how deep its tree is
abbrev pub depth_of : Expr → ℕ
depth_of blank = 0
depth_of (one negated members) = 0
depth_of (seq p q) = 1 + max (depth_of p) (depth_of q)
depth_of (alt p q) = 1 + max (depth_of p) (depth_of q)
depth_of (star p) = 1 + depth_of p

-- how many parts and ranges it has
abbrev pub parts_of : Expr → ℕ
parts_of blank = 1
parts_of (one negated members) = 1 + length members
parts_of (seq p q) = 1 + parts_of p + parts_of q
parts_of (alt p q) = 1 + parts_of p + parts_of q
parts_of (star p) = 1 + parts_of p

abbrev pub within : ℕ → ℕ → ℕ → Bool
within marks depth parts = (leb marks 1024 && leb depth 1024) && leb parts 65536

abbrev pub fits : Expr → Bool
fits p = within (marks_of p) (depth_of p) (parts_of p)

-- the expression, if it is not too large
abbrev pub fitting : Expr → Option Expr
fitting p = if fits p then Some p else None
