-- Where marks stand.
use Rattle.std.specs.Prelude.{ℕ, zero, suc, ◌+◌, Bool, true, false, List, ◌≡◌, drop}
use Rattle.std.specs.List.{All}
use Rattle.olk_regexes.specs.declared.regex.Regex.{Regex, Empty, One, Then', Or', Star'}

-- no mark stands at this place or behind it
abbrev pub IsDead : ℕ → List Bool → Type 0
IsDead live marks = All (λ b. b ≡ false) (drop live marks)

-- before which place all marks of a sequence stand: its own, those of its first part, and those of its second, which begin at `mid`
abbrev pub live_then : Bool → ℕ → ℕ → ℕ → ℕ
live_then ended first (suc second) mid = mid + suc second
live_then ended (suc first) zero mid = suc (suc first)
live_then true zero zero mid = 1
live_then false zero zero mid = 0

abbrev pub live_or : ℕ → ℕ → ℕ → ℕ
live_or first (suc second) mid = mid + suc second
live_or first zero mid = first

-- how many parts with parts of their own a tree has
abbrev pub height : Regex → ℕ
height Empty = 0
height (One k) = 0
height (Then' _ p _ _ _ q _) = suc (height p + height q)
height (Or' _ p _ _ q) = suc (height p + height q)
height (Star' _ p) = suc (height p)
