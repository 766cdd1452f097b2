-- When a double is a whole number, and when it is a multiple of one.
use Rattle.std.proofs.Common.{pow_pos, lit<, ◌≡◌, ℕ, zero, suc, ◌*◌, ◌/◌, ◌%◌, ◌^◌, ◌<◌, ◌≤◌, refl, sym, ap, subst, ◌∙◌, arith, true≢false, nat_lt, nat_eq, negsuc, Bool, true, false, ◌&&◌, ℤ, pos, T, inl, inr}
use Rattle.std.proofs.Math.Bool.{and-true}
use Rattle.std.proofs.Math.Dec.{ltb→lt}
use Rattle.std.proofs.lemmas.Float.{T_from_true}
use Rattle.std.proofs.lemmas.Bool.{ltb-true, ltb-false, eq-eqb, eqb-true}
use Rattle.std.proofs.Math.Nat.{eq-or-lt_of_le, eq_of_mul-eq-mul_right, div-lt_iff_lt-mul, mul_right_comm, mod-one, zero-div, zero-mod, div-add-mod'}
use Rattle.std.specs.Float.{Float, inf, fin, binary64, two_to, float_zero, float_with_sign, float_is_finite}
use Rattle.std.specs.Float.Ieee.{of_int, up, down, eq, le, lt, round, fits, to_unsigned}
use Rattle.std.specs.Float.Ieee.Exact.{HasValue, round_exact}
use Rattle.std.specs.Float.Ieee.Fits.{and_l, and_r, down_pos}
use Rattle.olk_numbers.specs.Numbers.{is_integral, is_natural, whole_part}
use Rattle.olk_numbers.proofs.Comparisons.{same_eq, to_unsigned-whole, true_from_T}

-- each whole number up to 2 ^ 53 is a double
pub of_int-exact : (k : ℕ) → k ≤ 2 ^ 53 → HasValue (of_int binary64 (pos k)) false k 1
unfolding of_int
of_int-exact k h =
    elim (eq-or-lt_of_le h) [
      | inl e ↦ subst (λ n. HasValue (round binary64 false n 1) false n 1) (sym e) (refl, refl)
      | inr l ↦ round_exact binary64 false k 1 k 1074 (lit< tt) l (omega (arith, l)) (omega arith)
    ]

-- a number is its whole quotient times the divisor just where nothing remains
nothing_remains : (a c : ℕ) → nat_eq (a / c * c) a ≡ nat_eq (a % c) 0
nothing_remains a c =
    same_eq (a / c * c) a (a % c) 0 (λ h. omega (arith, h, div-add-mod' a c)) (λ h. omega (arith, h, div-add-mod' a c))

-- a float of the value q is the same as m * 2 ^ e just where these are the same number
eq_by_value : (y : Float) (q m : ℕ) (e : ℤ) → HasValue y false q 1 → eq y (fin false m e) ≡ nat_eq (q * down e) (m * up e)
unfolding eq
eq_by_value (fin true n d) q m e v = absurd (true≢false v.0)
eq_by_value (fin false n d) q m e v =
    let size : n * up d ≡ q * down d = omega (arith, v.1) in
    let scaled : n * up d * down e ≡ q * down e * down d = ap (λ j. j * down e) size ∙ mul_right_comm q (down d) (down e) in
    and-true _ ∙ same_eq _ _ (q * down e) (m * up e) (λ h. eq_of_mul-eq-mul_right (down d) (down_pos d) _ _ (sym scaled ∙ h)) (λ h. scaled ∙ ap (λ j. j * down d) h)
eq_by_value _ q m e v = absurd v

integral_small : (m : ℕ) (e : ℤ) (w : ℕ) → lt (fin false m e) (two_to 53) ≡ true → w ≡ to_unsigned 64 (fin false m e)
    → eq (of_int binary64 (pos w)) (fin false m e) ≡ is_integral (fin false m e)
unfolding lt to_unsigned
integral_small m e w h c =
    let small : m * up e / down e < 2 ^ 53 = (div-lt_iff_lt-mul (down_pos e)).1 (omega (arith, ltb-true _ _ h)) in
    let whole : w ≡ m * up e / down e = omega (arith, c) in
    ap (λ k. eq (of_int binary64 (pos k)) (fin false m e)) whole ∙ eq_by_value _ _ m e (of_int-exact _ (omega (arith, small))) ∙ nothing_remains (m * up e) (down e)

-- below 2 ^ 53 a double has no fraction where its whole part is all of it
pub integral_below : (x y : Float) (w : ℕ) → y ≡ float_with_sign false x → lt y (two_to 53) ≡ true → w ≡ to_unsigned 64 y → eq (of_int binary64 (pos w)) y ≡ is_integral x
unfolding lt float_with_sign
integral_below (fin t m e) y w s h c =
    subst (λ z. lt z (two_to 53) ≡ true → w ≡ to_unsigned 64 z → eq (of_int binary64 (pos w)) z ≡ is_integral (fin false m e)) (sym s) (integral_small m e w) h c
integral_below _ y w s h c = absurd (true≢false (sym h ∙ ap (λ z. lt z (two_to 53)) s))

second : (a b c d : Bool) → T (a && b && c && d) → T b
second a b c d h = and_r a b (and_l (a && b) c (and_l (a && b && c) d h))

integral_large : (t : Bool) (m : ℕ) (e : ℤ) → T (fits binary64 (fin t m e)) → lt (fin false m e) (two_to 53) ≡ false → is_integral (fin t m e) ≡ true
unfolding lt fits
integral_large t m (pos k) f h = eq-eqb _ _ (mod-one (m * up (pos k)))
integral_large t zero (negsuc k) f h = eq-eqb _ _ (zero-mod (down (negsuc k)))
integral_large t (suc m) (negsuc k) f h =
    let few : suc m < 2 ^ 53 = ltb→lt _ _ (second (nat_eq (suc m % 2) 1) (nat_lt (suc m) (2 ^ 53)) _ _ f) in
    absurd (omega (arith, few, ltb-false _ _ h, pow_pos (suc k)))

-- and from there on none has one
pub integral_past : (x y : Float) → y ≡ float_with_sign false x → T (fits binary64 x) → lt y (two_to 53) ≡ false → float_is_finite y ≡ is_integral x
unfolding lt float_with_sign float_is_finite
integral_past (fin t m e) y s f h = ap float_is_finite s ∙ sym (integral_large t m e f (sym (ap (λ z. lt z (two_to 53)) s) ∙ h))
integral_past _ y s f h = ap float_is_finite s

-- what a double is cut to, where it is a whole number that is not below 0
pub whole_part_read : (x : Float) (w : ℕ) → is_natural x ≡ true → w ≡ to_unsigned 64 x → w ≡ whole_part x
unfolding lt le to_unsigned
whole_part_read (fin false m e) w h c =
    let in_range = and_l (lt (fin false m e) (two_to 64)) (is_integral (fin false m e)) (and_r (le float_zero (fin false m e)) _ (T_from_true _ h)) in
    to_unsigned-whole m e w (true_from_T _ in_range) c
whole_part_read (fin true m e) w h c =
    let level = and_l (nat_eq (0 * down e) (m * up e * 1)) _ (and_l (le float_zero (fin true m e)) _ (T_from_true _ h)) in
    let none : m * up e ≡ 0 = omega (arith, eqb-true _ _ (true_from_T _ level)) in
    c ∙ sym (ap (λ k. k / down e) none ∙ zero-div (down e))
whole_part_read (inf true) w h c = absurd (true≢false (sym h))
whole_part_read _ w h c = absurd (true≢false (sym h))
