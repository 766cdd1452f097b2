-- Paths as texts, how they are stored, and where a trail leads.
use Rattle.std.specs.Prelude.{◌≡◌, ◌≢◌, ℕ, Bool, not, ◌&&◌, ◌<◌, [], ◌∷◌, length, slice_index, if◌then◌else◌, ◌==◌, List, string_bytes}
use Rattle.std.specs.Char.{encode_utf8}
use Rattle.olk_spec.specs.Names.{Text, Name, Path, ◌//◌}
use Rattle.olk_reports.specs.declared.text.Storage.{Storage}
use Rattle.olk_reports.specs.declared.text.Storage.TheVariants.{Inline, Heap}
use Rattle.olk_reports.specs.declared.trail.Trail.{Trail, At, Below'}

-- one segment further down
abbrev pub one_below : Path → Name → Path
one_below path segment = path // segment

-- the last `/` of the path stands at n
pub record HasLastSlash (path : Path) (n : ℕ) : Type 0 where
  pub within : n < length path
  pub is_slash : slice_index path n ≡ 47
  pub is_last : (k : ℕ) → n < k → k < length path → slice_index path k ≢ 47

abbrev pub IsEmptyOrSlash : Text → Type 0
IsEmptyOrSlash [] = Unit {0}
IsEmptyOrSlash (b ∷ bs) = b ≡ 47

-- what a character of a segment is written as
abbrev pub escaped_char : ℕ → Text
escaped_char c = if c == 126 then 126 ∷ 48 ∷ [] else (if c == 47 then 126 ∷ 49 ∷ [] else encode_utf8 c)

-- a byte of a segment that is written as it is
abbrev pub is_plain_byte : ℕ → Bool
is_plain_byte b = not (b == 126) && not (b == 47)

-- The text that is stored, in place or on the heap.
abbrev pub stored : Storage → List ℕ
stored (Inline s) = s.bytes
stored (Heap s) = string_bytes s

-- Where a trail leads.
abbrev pub path_at : Trail → Path
path_at (At text) = text.now
path_at (Below' p up name) = one_below (path_at up) name.now
