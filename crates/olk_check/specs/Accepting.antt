-- How many accept.
use Rattle.std.specs.Prelude.{◌≡◌, ◌<◌, ℕ, Bool, true, false}
use Rattle.olk_check.specs.declared.one_of.Accepting.{Accepting}
use Rattle.olk_check.specs.declared.one_of.Accepting.TheVariants.{Zero, One, Several}

abbrev pub is_one : Accepting → Bool
is_one Zero = false
is_one One = true
is_one Several = false

-- it is said of this number
abbrev pub IsHowMany : Accepting → ℕ → Type 0
IsHowMany Zero n = n ≡ 0
IsHowMany One n = n ≡ 1
IsHowMany Several n = 1 < n
