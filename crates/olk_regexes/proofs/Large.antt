-- What is too large stays so in a larger expression, and what is not has no part that is.
use Rattle.std.proofs.Common.{◌≡◌, ℕ, suc, zero, ◌<◌, ◌≤◌, Bool, true, false, cond, ◌⊎◌, inl, inr, Some, None, refl, ap, subst, arith}
use Rattle.std.proofs.lemmas.Bool.Decides.{nat_tests}
use Rattle.olk_regexes.specs.Language.{Expr, blank, seq, alt}
use Rattle.olk_regexes.specs.Limits.{marks_of, depth_of, parts_of, within, fits, fitting}
use Rattle.olk_regexes.specs.Syntax.{times_then, up_to_more, exactly, between}

none_of : {A : Type 0} (b : Bool) (x : A) → None ≡ cond b (Some x) None → b ≡ false
none_of true x e = absurd (cc e)
none_of false x e = refl

of_none : {A : Type 0} (b : Bool) (x : A) → b ≡ false → None ≡ cond b (Some x) None
of_none b x e = rw e refl

within_more : (m d s m1 d1 s1 : ℕ) → m ≤ m1 → d ≤ d1 → s ≤ s1 → within m d s ≡ false → within m1 d1 s1 ≡ false
within_more m d s m1 d1 s1 hm hd hs h = grind (arith, nat_tests)

pub no_more : (p q : Expr) → marks_of p ≤ marks_of q → depth_of p ≤ depth_of q → parts_of p ≤ parts_of q → None ≡ fitting p → None ≡ fitting q
no_more p q hm hd hs h =
    of_none (fits q) q (within_more (marks_of p) (depth_of p) (parts_of p) (marks_of q) (depth_of q) (parts_of q) hm hd hs (none_of (fits p) p h))

no_second : (p q : Expr) → None ≡ fitting q → None ≡ fitting (seq p q)
no_second p q = no_more q (seq p q) (omega arith) (omega arith) (omega arith)

pub no_last : (n : ℕ) (p q : Expr) → None ≡ fitting q → None ≡ fitting (times_then n p q)
no_last zero p q h = h
no_last (suc n) p q h = no_second p (times_then n p q) (no_last n p q h)

-- ---- what is in an expression that is not too large

within_less : (m d s m1 d1 s1 : ℕ) → m ≤ m1 → d ≤ d1 → s ≤ s1 → within m1 d1 s1 ≡ true → within m d s ≡ true
within_less m d s m1 d1 s1 hm hd hs h = grind (arith, nat_tests)

fits_less : (p q : Expr) → marks_of p ≤ marks_of q → depth_of p ≤ depth_of q → parts_of p ≤ parts_of q → fits q ≡ true → fits p ≡ true
fits_less p q hm hd hs h = within_less (marks_of p) (depth_of p) (parts_of p) (marks_of q) (depth_of q) (parts_of q) hm hd hs h

fits_second : (p q : Expr) → fits (seq p q) ≡ true → fits q ≡ true
fits_second p q = fits_less q (seq p q) (omega arith) (omega arith) (omega arith)

fits_left : (p q : Expr) → fits (alt p q) ≡ true → fits p ≡ true
fits_left p q = fits_less p (alt p q) (omega arith) (omega arith) (omega arith)

fits_last : (n : ℕ) (p q : Expr) → fits (times_then n p q) ≡ true → fits q ≡ true
fits_last zero p q h = h
fits_last (suc n) p q h = fits_last n p q (fits_second p (times_then n p q) h)

nat_split : (i n : ℕ) → i < suc n → (i < n) ⊎ (i ≡ n)
nat_split zero zero h = inr refl
nat_split zero (suc n) h = inl (omega arith)
nat_split (suc i) zero h = absurd (omega arith)
nat_split (suc i) (suc n) h =
    elim (nat_split i n (omega arith)) as (λ _. (suc i < suc n) ⊎ (suc i ≡ suc n)) [
      | inl a ↦ inl (omega arith)
      | inr b ↦ inr (ap suc b)
    ]

-- a turn of the loop that puts another before the rest
pub fits_times : (i n : ℕ) (p q : Expr) → i < n → fits (times_then n p q) ≡ true → fits (seq p (times_then i p q)) ≡ true
fits_times i zero p q h e = absurd (omega arith)
fits_times i (suc n) p q h e =
    elim (nat_split i n (omega arith)) as (λ _. fits (seq p (times_then i p q)) ≡ true) [
      | inl a ↦ fits_times i n p q a (fits_second p (times_then n p q) e)
      | inr b ↦ rw b e
    ]

pub fits_options : (i n : ℕ) (p : Expr) → i < n → fits (up_to_more n p) ≡ true → fits (alt (seq p (up_to_more i p)) blank) ≡ true
fits_options i zero p h e = absurd (omega arith)
fits_options i (suc n) p h e =
    elim (nat_split i n (omega arith)) as (λ _. fits (alt (seq p (up_to_more i p)) blank) ≡ true) [
      | inl a ↦ fits_options i n p a (fits_second p (up_to_more n p) (fits_left (seq p (up_to_more n p)) blank e))
      | inr b ↦ rw b e
    ]

pub fits_between : (n k m : ℕ) (p : Expr) → m ≡ suc k → fits (between n m p) ≡ true → fits (up_to_more k p) ≡ true
fits_between n k m p h e = fits_last n p (up_to_more k p) (subst (λ j. fits (between n j p) ≡ true) h e)

pub fits_exactly : (n m : ℕ) (p : Expr) → m ≡ suc n → fits (exactly m p) ≡ true → fits p ≡ true
fits_exactly n m p h e = fits_last n p p (subst (λ j. fits (exactly j p) ≡ true) h e)
