-- What a decimal of a double is.
use Rattle.std.proofs.Common.{◌≡◌, ℕ, zero, suc, ◌+◌, ◌-◌, ◌^◌, ◌<◌, ◌≤◌, ◌&&◌, Option, refl, sym, ap, subst, ◌∙◌, arith, Bool, true, false, nat_lt, Some, None, IfSome, if◌then◌else◌, true≢false}
use Rattle.std.proofs.lemmas.Bool.{ltb-true}
use Rattle.std.specs.Option.{option_or}
use Rattle.std.specs.Float.{Float}
use Rattle.std.specs.Float.Ieee.{eq}
use Rattle.olk_numbers.specs.declared.decimals.Decimal.{Decimal}
use Rattle.olk_numbers.specs.Decimals.{ReadsAs, reads_as, nearest_double, candidate, decimal_at, decimal_from, decimal_of}

all_three : (a b c : Bool) → (a && (b && c)) ≡ true → (a ≡ true) × (b ≡ true) × (c ≡ true)
all_three true true true h = (refl, refl, refl)
all_three true true false h = absurd (true≢false (sym h))
all_three true false c h = absurd (true≢false (sym h))
all_three false b c h = absurd (true≢false (sym h))

reads : (x : Float) (d : Decimal) → d.places ≤ 22 → reads_as x d ≡ true → ReadsAs x d
reads x d p h =
    let parts = all_three (nat_lt 0 d.digits) (nat_lt d.digits (2 ^ 53)) (eq (nearest_double d) x) h in
    record {
      is_short = record { above_zero = ltb-true 0 d.digits parts.0; few_digits = ltb-true d.digits (2 ^ 53) parts.1; few_places = p };
      is_nearest = parts.2;
    }

at-reads : (x : Float) (p : ℕ) → p ≤ 22 → IfSome (decimal_at x p) (ReadsAs x)
at-reads x p h = go (reads_as x (candidate x p)) refl
  where
    go : (b : Bool) → reads_as x (candidate x p) ≡ b → IfSome (if b then Some (candidate x p) else None) (ReadsAs x)
    go true e = reads x (candidate x p) h e
    go false e = tt

from-reads : (x : Float) (p n : ℕ) → p + n ≤ 23 → IfSome (decimal_from x p n) (ReadsAs x)
unfolding decimal_from
from-reads x p zero h = tt
from-reads x p (suc n) h = go (decimal_at x p) (at-reads x p (omega (arith, h))) (from-reads x (suc p) n (omega (arith, h)))
  where
    go : (o : Option Decimal) → IfSome o (ReadsAs x) → IfSome (decimal_from x (suc p) n) (ReadsAs x) → IfSome (option_or o (decimal_from x (suc p) n)) (ReadsAs x)
    go (Some d) a b = a
    go None a b = b

-- the decimal of a double reads as it
pub of-reads : (x : Float) → IfSome (decimal_of x) (ReadsAs x)
unfolding decimal_of
of-reads x = from-reads x 0 23 (omega arith)

-- ---- one number of places after another

pub next : (x : Float) (p : ℕ) → p < 23 → decimal_at x p ≡ None → decimal_from x p (23 - p) ≡ decimal_from x (p + 1) (23 - (p + 1))
unfolding decimal_from
next x p h e =
    let more : 23 - p ≡ suc (23 - suc p) = omega (arith, h) in
    let one_more : suc p ≡ p + 1 = omega arith in
    let passed = ap (decimal_from x p) more ∙ ap (λ o. option_or o (decimal_from x (suc p) (23 - suc p))) e in
    subst (λ q. decimal_from x p (23 - p) ≡ decimal_from x q (23 - q)) one_more passed

pub here : (x : Float) (p : ℕ) (d : Decimal) → p < 23 → decimal_at x p ≡ Some d → decimal_from x p (23 - p) ≡ Some d
unfolding decimal_from
here x p d h e =
    let more : 23 - p ≡ suc (23 - suc p) = omega (arith, h) in
    ap (decimal_from x p) more ∙ ap (λ o. option_or o (decimal_from x (suc p) (23 - suc p))) e

pub first : (x : Float) → decimal_of x ≡ decimal_from x 0 (23 - 0)
unfolding decimal_of
first x = refl

pub last : (x : Float) (p : ℕ) → 23 ≤ p → decimal_from x p (23 - p) ≡ None
unfolding decimal_from
last x p h = let none : 23 - p ≡ 0 = omega (arith, h) in ap (decimal_from x p) none
