-- The order of whole numbers and doubles.
use Rattle.std.proofs.Common.{add_comm, add-zero, mul-one, ◌≡◌, ℕ, suc, ◌+◌, ◌*◌, ◌/◌, ◌%◌, ◌^◌, ◌<◌, inl, inr, refl, sym, ap, subst, ◌∙◌, arith, true≢false, unsigned_abs, int_lt, Less, Equal, Greater, Bool, true, false, cond, nat_eq, nat_lt, ℤ, pos, negsuc, Some, None, T}
use Rattle.std.proofs.Math.Nat.{div-lt_iff_lt-mul, mul-div_cancel, zero-mod, div-add-mod'}
use Rattle.std.specs.Float.Ieee.Fits.{down_pos}
use Rattle.std.proofs.lemmas.Bool.{cases_lt, eqb-true, eq-eqb, ne_eqb, eqb-false, lt-ltb, le-ltb, ltb-true, ltb-false}
use Rattle.std.proofs.lemmas.Float as floats
use Rattle.std.proofs.Math.Bool.{and-true}
use Rattle.std.specs.Option.{option_map}
use Rattle.std.specs.Ordering.{nat_cmp, int_cmp, float_partial_cmp, nan_last_cmp, ordering_reverse, is_eq, is_some_and}
use Rattle.std.specs.Float.{NotNan, Float, nan, inf, fin, float_zero, two_to}
use Rattle.std.specs.Float.Ieee.{up, down, lt, eq, neg, is_nan, to_unsigned}
use Rattle.olk_numbers.specs.Numbers.{of_whole, is_integral}

same_lt : (a b c d : ℕ) → (a < b → c < d) → (c < d → a < b) → nat_lt a b ≡ nat_lt c d
same_lt a b c d f g = elim (cases_lt a b) [
  | inl h ↦ lt-ltb a b h ∙ sym (lt-ltb c d (f h))
  | inr h ↦ elim (cases_lt c d) [ inl k ↦ absurd (omega (arith, g k, h)) | inr k ↦ le-ltb a b h ∙ sym (le-ltb c d k) ]
]

pub same_eq : (a b c d : ℕ) → (a ≡ b → c ≡ d) → (c ≡ d → a ≡ b) → nat_eq a b ≡ nat_eq c d
same_eq a b c d f g = go (nat_eq a b) refl
  where
    go : (t : Bool) → nat_eq a b ≡ t → t ≡ nat_eq c d
    go true e = sym (eq-eqb c d (f (eqb-true a b e)))
    go false e = sym (ne_eqb c d (λ h. eqb-false a b e (g h)))

-- ---- the answer of a comparison

pub less_of_lt : (x y : Float) → lt x y ≡ true → Some Less ≡ float_partial_cmp x y
less_of_lt x y h = rw h refl

pub reverse-compared : (x y : Float) → option_map ordering_reverse (float_partial_cmp x y) ≡ float_partial_cmp y x
reverse-compared x y = sym (floats.floats_po.antisymm y x)

pub greater_of_lt : (x y : Float) → lt y x ≡ true → Some Greater ≡ float_partial_cmp x y
greater_of_lt x y h = ap (option_map ordering_reverse) (less_of_lt y x h) ∙ reverse-compared y x

by_tests : (a e b : Bool) → (a ≡ false → e ≡ false → b ≡ true) → Some (cond a Less (cond e Equal Greater)) ≡ cond a (Some Less) (cond e (Some Equal) (cond b (Some Greater) None))
by_tests false false b h = rw (h refl refl) refl
by_tests _ _ b h = refl

lt_of_tests : (m n : ℕ) → nat_lt m n ≡ false → nat_eq m n ≡ false → nat_lt n m ≡ true
lt_of_tests m n h k = let apart : m ≡ n → ⊥ = eqb-false m n k in lt-ltb n m (omega (arith, ltb-false m n h, apart))

-- two floats in the order of two natural numbers
in_order : (x y : Float) (m n : ℕ) → lt x y ≡ nat_lt m n → eq x y ≡ nat_eq m n → lt y x ≡ nat_lt n m → Some (nat_cmp m n) ≡ float_partial_cmp x y
in_order x y m n p q r = rw (p, q, r) (by_tests (nat_lt m n) (nat_eq m n) (nat_lt n m) (lt_of_tests m n))

pub is_eq-compared : (x y : Float) → is_some_and is_eq (float_partial_cmp x y) ≡ eq x y
is_eq-compared x y = go (lt x y) (eq x y) (lt y x) (floats.eq-not_lt x y)
  where
    go : (a e b : Bool) → (T e → ¬ T a) → is_some_and is_eq (cond a (Some Less) (cond e (Some Equal) (cond b (Some Greater) None))) ≡ e
    go true true b f = absurd (f tt tt)
    go false false false f = refl
    go _ _ _ f = refl

pub true_from_T : (b : Bool) → T b → b ≡ true
true_from_T true t = refl
true_from_T false t = absurd t

two_to-number : (w : ℕ) → NotNan (two_to w)
unfolding is_nan
two_to-number w = tt

-- two numbers by `<` alone
ordered : (x y : Float) → NotNan x → NotNan y → Some (cond (lt x y) Less (cond (lt y x) Greater Equal)) ≡ float_partial_cmp x y
ordered x y p q = go (lt x y) (eq x y) (lt y x) refl refl refl
  where
    go : (a e b : Bool) → lt x y ≡ a → eq x y ≡ e → lt y x ≡ b → Some (cond a Less (cond b Greater Equal)) ≡ cond a (Some Less) (cond e (Some Equal) (cond b (Some Greater) None))
    go false true true f g h = absurd (floats.eq-not_lt y x (floats.eq_flip x y (floats.T_from_true _ g)) (floats.T_from_true _ h))
    go false false false f g h =
        elim (floats.lt-or-eq x y (floats.le_of_not-lt y x q p (floats.T_from_false _ h))) [
          | inl k ↦ absurd (subst T f k)
          | inr k ↦ absurd (subst T g k)
        ]
    go _ _ _ f g h = refl

-- the order in which a NaN comes last, at two numbers
pub ranked : (x y : Float) → NotNan x → NotNan y → Some (nan_last_cmp x y) ≡ float_partial_cmp x y
unfolding is_nan
ranked nan y p q = absurd p
ranked (inf s) nan p q = absurd q
ranked (fin s m e) nan p q = absurd q
ranked (inf s) (inf t) p q = ordered (inf s) (inf t) p q
ranked (inf s) (fin t n d) p q = ordered (inf s) (fin t n d) p q
ranked (fin s m e) (inf t) p q = ordered (fin s m e) (inf t) p q
ranked (fin s m e) (fin t n d) p q = ordered (fin s m e) (fin t n d) p q

same_as_ranked : (x y : Float) → NotNan x → NotNan y → is_eq (nan_last_cmp x y) ≡ eq y x
same_as_ranked x y p q = ap (is_some_and is_eq) (ranked x y p q) ∙ is_eq-compared x y ∙ floats.floats_per.symm x y

pub eq_by_rank : (x y : Float) → NotNan y → is_eq (nan_last_cmp x y) ≡ eq y x
unfolding is_nan eq
eq_by_rank nan nan q = absurd q
eq_by_rank nan (inf s) q = refl
eq_by_rank nan (fin s m e) q = refl
eq_by_rank (inf s) y q = same_as_ranked (inf s) y tt q
eq_by_rank (fin s m e) y q = same_as_ranked (fin s m e) y tt q

-- ---- two whole numbers

fraction_order : (m : ℕ) (e : ℤ) (n : ℕ) → Some (nat_cmp (m * up e) (n * down e)) ≡ float_partial_cmp (fin false m e) (of_whole (pos n))
unfolding lt eq
fraction_order m e n = in_order (fin false m e) (of_whole (pos n)) (m * up e) (n * down e) (simp mul-one refl) (simp (mul-one, and-true) refl) (simp mul-one refl)

pub unsigned_order : (m n : ℕ) → Some (nat_cmp m n) ≡ float_partial_cmp (of_whole (pos m)) (of_whole (pos n))
unsigned_order m n = (λ i. Some (nat_cmp (sym (mul-one m) i) (sym (mul-one n) i))) ∙ fraction_order m (pos 0) n

suc_lt : (m n : ℕ) → nat_lt (suc m) (suc n) ≡ nat_lt m n
suc_lt m n = same_lt (suc m) (suc n) m n (λ h. omega (arith, h)) (λ h. omega (arith, h))

lt-of_whole : (m n : ℤ) → lt (of_whole m) (of_whole n) ≡ int_lt m n
unfolding lt
lt-of_whole (pos m) (pos n) = simp mul-one refl
lt-of_whole (pos m) (negsuc n) = refl
lt-of_whole (negsuc m) (pos n) = lt-ltb 0 _ (omega arith)
lt-of_whole (negsuc m) (negsuc n) = simp mul-one (suc_lt n m)

pub of_whole-number : (m : ℤ) → NotNan (of_whole m)
unfolding is_nan
of_whole-number (pos m) = tt
of_whole-number (negsuc m) = tt

pub signed_order : (m n : ℤ) → Some (int_cmp m n) ≡ float_partial_cmp (of_whole m) (of_whole n)
signed_order m n = (λ i. Some (cond (sym (lt-of_whole m n) i) Less (cond (sym (lt-of_whole n m) i) Greater Equal))) ∙ ordered (of_whole m) (of_whole n) (of_whole-number m) (of_whole-number n)

-- ---- the other way round

lt-neg : (x y : Float) → lt (neg x) (neg y) ≡ lt y x
unfolding lt neg
lt-neg nan nan = refl
lt-neg (inf s) nan = refl
lt-neg (inf true) (inf true) = refl
lt-neg (inf false) (inf true) = refl
lt-neg (fin s m e) (inf true) = refl
lt-neg (fin true m e) (fin true n d) = refl
lt-neg (fin false m e) (fin true n d) = ap (nat_lt 0) (add_comm (m * up e * down d) (n * up d * down e))
lt-neg _ _ = refl

eq-neg : (x y : Float) → eq (neg x) (neg y) ≡ eq x y
unfolding eq neg
eq-neg nan y = refl
eq-neg (inf s) nan = refl
eq-neg (inf true) (inf true) = refl
eq-neg (inf false) (inf true) = refl
eq-neg (fin s m e) nan = refl
eq-neg (fin true m e) (fin true n d) = refl
eq-neg (fin false m e) (fin true n d) = refl
eq-neg _ _ = refl

pub neg-compared : (x y : Float) → float_partial_cmp (neg x) (neg y) ≡ float_partial_cmp y x
neg-compared x y =
    let equal = eq-neg x y ∙ floats.floats_per.symm x y in
    λ i. cond (lt-neg x y i) (Some Less) (cond (equal i) (Some Equal) (cond (lt-neg y x i) (Some Greater) None))

pub below_zero_order : (x : Float) (n : ℤ) (k : ℕ) → int_lt n (pos 0) ≡ true → k ≡ unsigned_abs n
    → option_map ordering_reverse (float_partial_cmp (neg x) (of_whole (pos k))) ≡ float_partial_cmp x (of_whole n)
unfolding neg
below_zero_order x (pos n) k h e = absurd (omega (arith, ltb-true _ _ h))
below_zero_order x (negsuc n) k h e =
    ap (λ j. option_map ordering_reverse (float_partial_cmp (neg x) (of_whole (pos j)))) e ∙ reverse-compared (neg x) (of_whole (pos (suc n))) ∙ neg-compared (of_whole (negsuc n)) x

-- ---- a double and a whole number that is not negative

pub negative_below : (x : Float) (n : ℕ) → lt x float_zero ≡ true → lt x (of_whole (pos n)) ≡ true
unfolding lt
negative_below (fin false m e) n h = absurd (omega (arith, ltb-true _ _ h))
negative_below (fin true m e) n h = lt-ltb 0 _ (omega (arith, ltb-true _ _ h))
negative_below _ n h = h

whole_below : (n : ℕ) → n < 2 ^ 64 → T (lt (of_whole (pos n)) (two_to 64))
unfolding lt
whole_below n h = floats.T_from_true _ (lt-ltb _ _ (omega arith))

pub past_whole : (x : Float) (n : ℕ) → n < 2 ^ 64 → NotNan x → lt x (two_to 64) ≡ false → lt (of_whole (pos n)) x ≡ true
past_whole x n b p h = true_from_T _ (floats.lt_of_lt_of_le (of_whole (pos n)) (two_to 64) x (whole_below n b) (floats.le_of_not-lt x (two_to 64) p (two_to-number 64) (floats.T_from_false _ h)))

quotient_order : (a d t n : ℕ) → 0 < d → t ≡ a / d → (t ≡ n → a % d ≡ 0) → nat_cmp t n ≡ nat_cmp a (n * d)
quotient_order a d t n p q r =
    let parts : a / d * d + a % d ≡ a = div-add-mod' a d in
    let smaller = same_lt t n a (n * d) (λ h. (div-lt_iff_lt-mul p).0 (subst (λ k. k < n) q h)) (λ h. subst (λ k. k < n) (sym q) ((div-lt_iff_lt-mul p).1 h)) in
    let same = same_eq t n a (n * d) (λ h. sym parts ∙ (λ i. (sym q ∙ h) i * d + r h i) ∙ add-zero (n * d)) (λ h. q ∙ ap (λ k. k / d) h ∙ mul-div_cancel n p) in
    λ i. cond (smaller i) Less (cond (same i) Equal Greater)

-- the whole part of a double that is not negative, and below 2 ^ 64
pub to_unsigned-whole : (m : ℕ) (e : ℤ) (t : ℕ) → lt (fin false m e) (two_to 64) ≡ true → t ≡ to_unsigned 64 (fin false m e) → t ≡ m * up e / down e
unfolding lt to_unsigned
to_unsigned-whole m e t h c = let small : m * up e / down e < 2 ^ 64 = (div-lt_iff_lt-mul (down_pos e)).1 (omega (arith, ltb-true _ _ h)) in omega (arith, c)

zero_of_not-lt : (m : ℕ) (e : ℤ) → lt (fin true m e) float_zero ≡ false → m * up e ≡ 0
unfolding lt
zero_of_not-lt m e h = omega (arith, ltb-false _ _ h)

eq-float_zero : (m : ℕ) (e : ℤ) → m * up e ≡ 0 → eq (fin true m e) float_zero ≡ true
unfolding eq
eq-float_zero m e h = rw (eq-eqb (m * up e * 1) (0 * 2 ^ 0 * down e) (omega (arith, h)), eq-eqb (m * up e * 1) 0 (omega (arith, h))) refl

pub whole_part_order : (x : Float) (t n : ℕ) → lt x float_zero ≡ false → lt x (two_to 64) ≡ true → t ≡ to_unsigned 64 x → (t ≡ n → is_integral x ≡ true)
    → Some (nat_cmp t n) ≡ float_partial_cmp x (of_whole (pos n))
unfolding lt to_unsigned
whole_part_order (inf true) t n a b c d = absurd (true≢false a)
whole_part_order (fin true m e) t n a b c d =
    ap (λ k. Some (nat_cmp k n)) c ∙ unsigned_order 0 n ∙ sym (floats.floats_po.congr (fin true m e) float_zero (of_whole (pos n)) (eq-float_zero m e (zero_of_not-lt m e a)))
whole_part_order (fin false m e) t n a b c d =
    ap Some (quotient_order (m * up e) (down e) t n (down_pos e) (to_unsigned-whole m e t b c) (λ h. eqb-true _ _ (d h))) ∙ fraction_order m e n
whole_part_order _ t n a b c d = absurd (true≢false (sym b))

pub fraction_above : (x : Float) (n : ℕ) → lt x float_zero ≡ false → lt x (two_to 64) ≡ true → n ≡ to_unsigned 64 x → is_integral x ≡ false → lt (of_whole (pos n)) x ≡ true
unfolding lt to_unsigned
fraction_above (inf true) n a b c d = absurd (true≢false a)
fraction_above (fin true m e) n a b c d = absurd (eqb-false _ _ d (ap (λ k. k % down e) (zero_of_not-lt m e a) ∙ zero-mod (down e)))
fraction_above (fin false m e) n a b c d =
    let some : (m * up e) % down e ≡ 0 → ⊥ = eqb-false _ _ d in
    let parts : m * up e / down e * down e + (m * up e) % down e ≡ m * up e = div-add-mod' (m * up e) (down e) in
    let left : n * down e ≡ m * up e / down e * down e = ap (λ k. k * down e) (to_unsigned-whole m e n b c) in
    lt-ltb _ _ (omega (arith, some, parts, left))
fraction_above _ n a b c d = absurd (true≢false (sym b))
