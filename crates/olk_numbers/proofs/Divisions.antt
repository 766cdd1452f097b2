-- What is divided by, and what is divided.
use Rattle.std.proofs.Common.{◌≡◌, ℕ, suc, ◌*◌, ◌^◌, ◌<◌, ◌≤◌, refl, sym, ap, subst, ◌∙◌, arith, Bool, true, false, nat_le, ℤ, pos, negsuc, unsigned_abs, Option, Some, None, IfSome, if◌then◌else◌, true≢false}
use Rattle.std.proofs.Math.Nat.{mod-one, div-one, mul-one}
use Rattle.std.proofs.lemmas.Bool.{eq-eqb, leb-true}
use Rattle.std.specs.Option.{option_and_then, option_map_or}
use Rattle.std.specs.Float.{Float, nan, inf, fin, float_zero, float_with_sign, float_is_finite, is_sign_negative}
use Rattle.std.specs.Float.Ieee.{lt}
use Rattle.serde_json.specs.Data.{Num, unsigned, negative, float}
use Rattle.olk_numbers.specs.declared.decimals.Decimal.{Decimal}
use Rattle.olk_numbers.specs.Decimals.{ReadsAs, decimal_of}
use Rattle.olk_numbers.specs.Multiples.{whole_divisor, double_divisor, divisor_of, whole_is_multiple, fraction_is_multiple, double_is_multiple, is_multiple_of}
use Rattle.olk_numbers.specs.Numbers.{exact, of_whole, is_integral, natural_float, whole_part}
use Rattle.olk_numbers.proofs.Readings.{of-reads}

-- ---- what is divided by

pub record CanDivide (d : Decimal) : Type 0 where
  pub above_zero : 0 < d.digits
  pub few_places : d.places ≤ 22
  pub few_digits : 0 < d.places → d.digits < 2 ^ 53

whole_can : (n : ℕ) → IfSome (whole_divisor n) CanDivide
whole_can n = go (nat_le 1 n) refl
  where
    go : (b : Bool) → nat_le 1 n ≡ b → IfSome (if b then Some (record { digits = n; places = 0 }) else None) CanDivide
    go true e = record { above_zero = omega (arith, leb-true 1 n e); few_places = omega arith; few_digits = λ p. absurd (omega (arith, p)) }
    go false e = tt

natural_can : (o : Option ℕ) → IfSome (option_and_then whole_divisor o) CanDivide
natural_can (Some n) = whole_can n
natural_can None = tt

decimal_can : (x : Float) (o : Option Decimal) → IfSome o (ReadsAs x) → IfSome o CanDivide
decimal_can x (Some d) r = record { above_zero = r.is_short.above_zero; few_places = r.is_short.few_places; few_digits = λ p. r.is_short.few_digits }
decimal_can x None r = tt

double_can : (x : Float) → IfSome (double_divisor x) CanDivide
double_can x = go (is_integral x) (lt float_zero x)
  where
    go : (b c : Bool) → IfSome (if b then option_and_then whole_divisor (natural_float x) else if c then decimal_of x else None) CanDivide
    go true c = natural_can (natural_float x)
    go false true = decimal_can x (decimal_of x) (of-reads x)
    go false false = tt

can_divide : (n : Num) → IfSome (divisor_of n) CanDivide
unfolding divisor_of
can_divide (unsigned n) = whole_can n
can_divide (negative z) = tt
can_divide (float x) = double_can x

pub divisor_can : (n : Num) (d : Decimal) → divisor_of n ≡ Some d → CanDivide d
divisor_can n d e = subst (λ o. IfSome o CanDivide) e (can_divide n)

-- ---- what is divided

pub record IsSizeOf (x y : Float) : Type 0 where
  pub is_finite : float_is_finite y ≡ true
  pub is_positive : is_sign_negative y ≡ false
  pub value : whole_part y ≡ whole_part x

pub size_of : (x y : Float) → y ≡ float_with_sign false x → is_integral x ≡ true → IsSizeOf x y
unfolding float_with_sign float_is_finite is_sign_negative
size_of nan y e i = absurd (true≢false (sym i))
size_of (inf s) y e i = absurd (true≢false (sym i))
size_of (fin s m k) y e i = record { is_finite = ap float_is_finite e; is_positive = ap is_sign_negative e; value = ap whole_part e }

pub whole_is : (x : Float) (d : Decimal) → is_integral x ≡ true → double_is_multiple x d ≡ whole_is_multiple (whole_part x) d
whole_is x d i = ap (λ b. if b then whole_is_multiple (whole_part x) d else fraction_is_multiple x d) i

pub fraction_is : (x : Float) (d : Decimal) → is_integral x ≡ false → double_is_multiple x d ≡ fraction_is_multiple x d
fraction_is x d i = ap (λ b. if b then whole_is_multiple (whole_part x) d else fraction_is_multiple x d) i

whole_double : (s : Bool) (n : ℕ) (d : Decimal) → double_is_multiple (fin s n (pos 0)) d ≡ whole_is_multiple n d
whole_double s n d =
    whole_is (fin s n (pos 0)) d (eq-eqb _ _ (mod-one (n * 1)))
    ∙ ap (λ w. whole_is_multiple w d) (div-one (n * 1) ∙ mul-one n)

pub whole_number : (z : ℤ) (d : Decimal) → whole_is_multiple (unsigned_abs z) d ≡ double_is_multiple (of_whole z) d
whole_number (pos n) d = sym (whole_double false n d)
whole_number (negsuc n) d = sym (whole_double true (suc n) d)

pub known : (m n : Num) (d : Decimal) → divisor_of n ≡ Some d → is_multiple_of m n ≡ double_is_multiple (exact m) d
unfolding is_multiple_of
known m n d e = ap (λ o. option_map_or (λ c. double_is_multiple (exact m) c) o false) e
