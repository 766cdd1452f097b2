-- Powers of ten: as doubles, and times whole numbers that are small enough.
use Rattle.std.proofs.Common.{◌≡◌, ℕ, zero, suc, ◌+◌, ◌*◌, ◌^◌, ◌<◌, ◌≤◌, sym, ap, subst, ◌∙◌, arith, pos, nat_eq, false, lit<, true, true≢false}
use Rattle.std.proofs.Math.Nat.{pow-le-pow_right, one-le-pow, mul-le-mul, mul-pos, mul_assoc, mul_comm, mul_left_comm, mul-one, lt_of_le_of_lt, le_of_lt}
use Rattle.std.proofs.Math.Pow.{shl_lt, pow_mono}
use Rattle.std.proofs.lemmas.Nat.{mul-pow, pow-add}
use Rattle.std.proofs.lemmas.Bool.{ne_eqb}
use Rattle.std.specs.Float.{Float, fin, binary64}
use Rattle.std.specs.Float.Ieee.{of_int, up, down, round, mul, div}
use Rattle.std.specs.Float.Ieee.Exact.{HasValue, round_exact}
use Rattle.std.specs.Float.Ieee.Fits.{down_pos}
use Rattle.std.specs.Float.Ieee.Positive.{positive_of_value, mul_at, first_pos}
use Rattle.std.specs.Float.Ieee.Scale.{round_same}

pub ten_pos : (p : ℕ) → 0 < 10 ^ p
ten_pos p = one-le-pow p 10 (lit< tt)

pub tens_below : (p : ℕ) → p ≤ 22 → 10 ^ p ≤ 10 ^ 22
tens_below p h = pow-le-pow_right (lit< tt) h

fives_below : (p : ℕ) → p ≤ 22 → 5 ^ p < 2 ^ 53
fives_below p h = lt_of_le_of_lt (pow-le-pow_right (lit< tt) h) (lit< tt)

-- ---- as doubles

few_enough : (p : ℕ) → p ≤ 22 → 53 + (p + 1074) ≤ 2098
few_enough p h = omega arith

in_units : (p : ℕ) → 10 ^ p * 2 ^ 1074 ≡ 5 ^ p * 2 ^ (p + 1074) * 1
in_units p =
    ap (λ n. n * 2 ^ 1074) (mul-pow 5 2 p) ∙ mul_assoc (5 ^ p) (2 ^ p) (2 ^ 1074) ∙ ap (λ n. 5 ^ p * n) (sym (pow-add 2 p 1074)) ∙ sym (mul-one (5 ^ p * 2 ^ (p + 1074)))

-- a power of ten is a double
pub of_int-ten : (p : ℕ) → p ≤ 22 → HasValue (of_int binary64 (pos (10 ^ p))) false (10 ^ p) 1
unfolding of_int
of_int-ten p h =
    let few = fives_below p h in
    let range : 5 ^ p * 2 ^ (p + 1074) < 2 ^ 2098 = omega (arith, shl_lt {a = 5 ^ p} 53 (p + 1074) few, pow_mono {i = 53 + (p + 1074)} {j = 2098} (few_enough p h)) in
    round_exact binary64 false (10 ^ p) 1 (5 ^ p) (p + 1074) (lit< tt) few range (in_units p)

-- and so is the product of two
pub mul-tens : (p q : ℕ) → p ≤ 22 → q ≤ 22 → mul binary64 (of_int binary64 (pos (10 ^ p))) (of_int binary64 (pos (10 ^ q))) ≡ of_int binary64 (pos (10 ^ (p + q)))
unfolding of_int
mul-tens p q f g =
    let x = of_int binary64 (pos (10 ^ p)) in
    let y = of_int binary64 (pos (10 ^ q)) in
    let v = of_int-ten p f in
    let w = of_int-ten q g in
    mul_at binary64 x y (10 ^ p) 1 (10 ^ q) 1 (positive_of_value x (10 ^ p) 1 v (ten_pos p)) (positive_of_value y (10 ^ q) 1 w (ten_pos q)) (lit< tt) (lit< tt) v w
    ∙ ap (λ n. round binary64 false n 1) (sym (pow-add 10 p q))

-- the quotient of two doubles that are whole numbers
pub div-wholes : (x y : Float) (a b : ℕ) → HasValue x false a 1 → HasValue y false b 1 → 0 < b → div binary64 x y ≡ round binary64 false a b
unfolding div
div-wholes (fin false m e) (fin false n k) a b v w p =
    let above : m * up e ≡ a * down e = omega (arith, v.1) in
    let below : n * up k ≡ b * down k = omega (arith, w.1) in
    let some : 0 < n * up k = subst (λ j. 0 < j) (sym below) (mul-pos p (down_pos k)) in
    let not_zero : nat_eq n 0 ≡ false = ne_eqb n 0 (λ z. omega (arith, first_pos n (up k) some, z)) in
    let same : m * up e * down k * b ≡ a * (n * up k * down e) = rw (above, below) (simp (mul_assoc, mul_comm, mul_left_comm)) in
    rw not_zero (round_same binary64 false (m * up e * down k) (n * up k * down e) a b (mul-pos some (down_pos e)) p same)
div-wholes (fin true m e) y a b v w p = absurd (true≢false v.0)
div-wholes (fin false m e) (fin true n k) a b v w p = absurd (true≢false w.0)
div-wholes (fin false m e) _ a b v w p = absurd w
div-wholes _ y a b v w p = absurd v

-- ---- times whole numbers

pub scaled_below : (n p : ℕ) → n < 2 ^ 53 → p ≤ 22 → n * 10 ^ p < 2 ^ 128
scaled_below n p h k = lt_of_le_of_lt (mul-le-mul (le_of_lt h) (tens_below p k)) (lit< tt)

pub whole_scaled_below : (n p : ℕ) → n < 2 ^ 64 → p ≤ 22 → (0 < p → n < 2 ^ 53) → n * 10 ^ p < 2 ^ 128
whole_scaled_below n zero h k f = omega (arith, h)
whole_scaled_below n (suc p) h k f = scaled_below n (suc p) (f (omega arith)) k
