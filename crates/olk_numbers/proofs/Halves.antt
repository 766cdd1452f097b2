-- Doubles from 2 ^ 64 on: they are halved without rounding.
use Rattle.std.proofs.Common.{◌≡◌, ℕ, zero, suc, ◌+◌, ◌*◌, ◌/◌, ◌%◌, ◌^◌, ◌<◌, ◌&&◌, refl, sym, ap, subst, ◌∙◌, arith, pos, negsuc, T, true, false, true≢false, lit<, nat_eq, nat_lt, Bool, pow_pos}
use Rattle.std.proofs.Math.Nat.{pow-suc, mul_assoc, mul-one, mul-div_cancel, mul-pos, mul-lt-mul_of_pos_right}
use Rattle.std.proofs.Math.Dec.{ltb→lt}
use Rattle.std.proofs.lemmas.Nat.{pow-add}
use Rattle.std.proofs.lemmas.Bool.{ltb-false}
use Rattle.std.specs.Float.{Float, nan, inf, fin, binary64, two_to, float_is_finite, is_sign_negative}
use Rattle.std.specs.Float.Ieee.{up, down, div, lt, fits, to_unsigned}
use Rattle.std.specs.Float.Ieee.Exact.{HasValue, round_exact}
use Rattle.std.specs.Float.Ieee.Fits.{and_l, and_r, down_pos}
use Rattle.std.specs.Float.Ieee.Scale.{round_same}
use Rattle.olk_numbers.specs.Numbers.{whole_part}
use Rattle.olk_numbers.proofs.Comparisons.{to_unsigned-whole}

-- y is the whole number w
pub record IsWhole (y : Float) (w : ℕ) : Type 0 where
  pub is_finite : float_is_finite y ≡ true
  pub is_positive : is_sign_negative y ≡ false
  pub value : whole_part y ≡ w

whole_of_value : (y : Float) (w : ℕ) → HasValue y false w 1 → IsWhole y w
unfolding float_is_finite is_sign_negative
whole_of_value (fin t n d) w v = record { is_finite = refl; is_positive = v.0; value = ap (λ j. j / down d) (sym (mul-one (n * up d)) ∙ v.1) ∙ mul-div_cancel w (down_pos d) }
whole_of_value _ w v = absurd v

in_range : (m k : ℕ) → m * 2 ^ suc k < 2 ^ 1024 → m * 2 ^ (k + 1074) < 2 ^ 2098
in_range m k h =
    let all : m * 2 ^ suc k ≡ m * 2 ^ k * 2 = ap (λ j. m * j) (pow-suc 2 k) ∙ sym (mul_assoc m (2 ^ k) 2) in
    let half : m * 2 ^ k < 2 ^ 1024 = omega (arith, h, all) in
    let scaled : m * 2 ^ (k + 1074) ≡ m * 2 ^ k * 2 ^ 1074 = ap (λ j. m * j) (pow-add 2 k 1074) ∙ sym (mul_assoc m (2 ^ k) (2 ^ 1074)) in
    subst (λ j. j < 2 ^ 2098) (sym scaled) (mul-lt-mul_of_pos_right half (pow_pos 1074))

half-value : (m k : ℕ) → m < 2 ^ 53 → m * 2 ^ suc k < 2 ^ 1024 → HasValue (div binary64 (fin false m (pos (suc k))) (fin false 1 (pos 1))) false (m * 2 ^ k) 1
unfolding div
half-value m k few h =
    let halves : m * 2 ^ suc k * 1 * 1 ≡ m * 2 ^ k * 2 = mul-one _ ∙ mul-one _ ∙ ap (λ j. m * j) (pow-suc 2 k) ∙ sym (mul_assoc m (2 ^ k) 2) in
    let in_units : m * 2 ^ k * 2 ^ 1074 ≡ m * 2 ^ (k + 1074) * 1 = mul_assoc m (2 ^ k) (2 ^ 1074) ∙ ap (λ j. m * j) (sym (pow-add 2 k 1074)) ∙ sym (mul-one _) in
    subst (λ y. HasValue y false (m * 2 ^ k) 1) (sym (round_same binary64 false (m * 2 ^ suc k * 1) 2 (m * 2 ^ k) 1 (lit< tt) (lit< tt) halves))
    (round_exact binary64 false (m * 2 ^ k) 1 m (k + 1074) (lit< tt) few (in_range m k h) in_units)

-- y is half of x
pub record IsHalf (x y : Float) : Type 0 where
  pub is_whole : IsWhole y (whole_part y)
  pub above_zero : 0 < whole_part y
  pub twice : whole_part x ≡ 2 * whole_part y

digits_of : (a b c d : Bool) → T (a && b && c && d) → T b
digits_of a b c d h = and_r a b (and_l (a && b) c (and_l (a && b && c) d h))

half_of_large : (m k : ℕ) (y : Float) → 0 < m → IsWhole y (m * 2 ^ k) → IsHalf (fin false m (pos (suc k))) y
half_of_large m k y p w =
    let all : m * 2 ^ suc k / 1 ≡ 2 * (m * 2 ^ k) = omega (arith, ap (λ j. m * j) (pow-suc 2 k), mul_assoc m (2 ^ k) 2) in
    record {
      is_whole = record { is_finite = w.is_finite; is_positive = w.is_positive; value = refl };
      above_zero = subst (λ j. 0 < j) (sym w.value) (mul-pos p (pow_pos k));
      twice = all ∙ ap (λ j. 2 * j) (sym w.value);
    }

pub halved : (x y : Float) → T (fits binary64 x) → float_is_finite x ≡ true → is_sign_negative x ≡ false → lt x (two_to 64) ≡ false → y ≡ div binary64 x (fin false 1 (pos 1)) → IsHalf x y
unfolding fits float_is_finite is_sign_negative lt
halved nan y f i s h e = absurd (true≢false (sym i))
halved (inf t) y f i s h e = absurd (true≢false (sym i))
halved (fin true m e) y f i s h q = absurd (true≢false s)
halved (fin false zero e) y f i s h q = absurd (omega (arith, ltb-false _ _ h, down_pos e))
halved (fin false (suc m) (negsuc k)) y f i s h q =
    let few : suc m < 2 ^ 53 = ltb→lt _ _ (digits_of (nat_eq (suc m % 2) 1) (nat_lt (suc m) (2 ^ 53)) _ _ f) in
    absurd (omega (arith, few, ltb-false _ _ h, pow_pos (suc k)))
halved (fin false (suc m) (pos zero)) y f i s h q =
    let few : suc m < 2 ^ 53 = ltb→lt _ _ (digits_of (nat_eq (suc m % 2) 1) (nat_lt (suc m) (2 ^ 53)) _ _ f) in
    absurd (omega (arith, few, ltb-false _ _ h))
halved (fin false (suc m) (pos (suc k))) y f i s h q =
    let few : suc m < 2 ^ 53 = ltb→lt _ _ (digits_of (nat_eq (suc m % 2) 1) (nat_lt (suc m) (2 ^ 53)) _ _ f) in
    let small : suc m * 2 ^ suc k < 2 ^ 1024 = omega (arith, ltb→lt _ _ (and_r _ (nat_lt (suc m * 2 ^ suc k) (2 ^ 1024 * 1)) f)) in
    half_of_large (suc m) k y (omega arith) (subst (λ z. IsWhole z (suc m * 2 ^ k)) (sym q) (whole_of_value _ _ (half-value (suc m) k few small)))

-- below 2 ^ 64 a double is cut to its whole part
pub cut : (x : Float) (w : ℕ) → is_sign_negative x ≡ false → lt x (two_to 64) ≡ true → w ≡ to_unsigned 64 x → w ≡ whole_part x
unfolding is_sign_negative lt
cut (fin true m e) w s h c = absurd (true≢false s)
cut (fin false m e) w s h c = to_unsigned-whole m e w h c
cut (inf true) w s h c = absurd (true≢false s)
cut _ w s h c = absurd (true≢false (sym h))
