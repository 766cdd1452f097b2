-- How large an expression is, by how large its parts are.
use Rattle.std.specs.Prelude.{ℕ, zero, suc, ◌+◌, ◌*◌, ◌-◌, ◌≤◌, ◌<◌, ◌==◌, Bool, false, ◌&&◌, max, Option, Some, None, if◌then◌else◌}
use Rattle.olk_regexes.specs.Counts.{Counts}
use Rattle.olk_regexes.specs.Language.{Expr}
use Rattle.olk_regexes.specs.Limits.{marks_of, depth_of, parts_of, within}
use Rattle.olk_regexes.specs.declared.size.Size.{Size}

abbrev pub size : ℕ → ℕ → ℕ → Size
size m d s = record { marks = m; depth = d; parts = s }

abbrev pub size_of : Expr → Size
size_of p = size (marks_of p) (depth_of p) (parts_of p)

-- not larger than may be built
abbrev pub IsSmall : Size → Type 0
IsSmall s = (s.marks ≤ 1024) × ((s.depth ≤ 1024) × (s.parts ≤ 65536))

-- a number of each that a sum can take
abbrev pub IsCounted : Size → Type 0
IsCounted s = (s.marks < 1152921504606846976) × ((s.depth < 1152921504606846976) × (s.parts < 1152921504606846976))

abbrev pub bounded : Size → Option Size
bounded s = if within s.marks s.depth s.parts then Some s else None

abbrev pub then_size : Size → Size → Size
then_size s t = size (1 + s.marks + t.marks) (1 + max s.depth t.depth) (1 + s.parts + t.parts)

abbrev pub or_size : Size → Size → Size
or_size s t = size (s.marks + t.marks) (1 + max s.depth t.depth) (1 + s.parts + t.parts)

abbrev pub star_size : Size → Size
star_size s = size (1 + s.marks) (1 + s.depth) (1 + s.parts)

abbrev pub times_size : ℕ → Size → Size → Size
times_size zero s t = t
times_size (suc n) s t = size (suc n * (1 + s.marks) + t.marks) (suc n + max s.depth t.depth) (suc n * (1 + s.parts) + t.parts)

abbrev pub up_to_size : ℕ → Size → Size
up_to_size n s = size (n * (1 + s.marks) + s.marks) (2 * n + 1 + s.depth) (n * (3 + s.parts) + s.parts + 2)

abbrev pub exactly_size : ℕ → Size → Size
exactly_size zero s = size 0 0 1
exactly_size (suc n) s = times_size n s s

abbrev pub between_size : ℕ → ℕ → Size → Size
between_size n zero s = exactly_size n s
between_size n (suc k) s = times_size n s (up_to_size k s)

abbrev pub repeated_size : Size → Counts → Size
repeated_size s (n, None) = times_size n s (star_size s)
repeated_size s (n, Some m) = between_size n (m - n) s

-- whether nothing is left of a part that is to match so often
abbrev pub is_never : Counts → Bool
is_never (n, None) = false
is_never (n, Some m) = (n == 0) && (m == 0)

-- the size of an expression that is not too large
abbrev pub measured : Expr → Option Size
measured p = bounded (size_of p)
