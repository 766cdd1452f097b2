-- How large an expression is, by how large its parts are.
use Rattle.std.proofs.Common.{◌≡◌, ℕ, suc, zero, ◌+◌, ◌-◌, ◌*◌, ◌==◌, Bool, true, false, ◌&&◌, cond, max, Some, None, refl, ap, ◌∙◌, arith}
use Rattle.olk_regexes.specs.Counts.{Counts}
use Rattle.olk_regexes.specs.Language.{Expr, blank, seq, alt, star}
use Rattle.olk_regexes.specs.Limits.{marks_of, depth_of, parts_of, fits, fitting}
use Rattle.olk_regexes.specs.Sizes.{size, size_of, bounded, times_size, up_to_size, exactly_size, between_size, repeated_size, is_never, measured}
use Rattle.olk_regexes.specs.Syntax.{times_then, up_to_more, exactly, between, repeated}
use Rattle.olk_regexes.specs.declared.size.Size.{Size}
use Rattle.std.proofs.lemmas.Bool.Decides.{nat_tests}
use Rattle.olk_regexes.proofs.Equal.{and-to}
use Rattle.olk_regexes.proofs.Large.{no_more, no_last}

size_same : (m d s m1 d1 s1 : ℕ) → m ≡ m1 → d ≡ d1 → s ≡ s1 → size m d s ≡ size m1 d1 s1
size_same m d s m1 d1 s1 a b c = rw (a, b, c) refl

pub times_sized : (n : ℕ) (p q : Expr) → size_of (times_then n p q) ≡ times_size n (size_of p) (size_of q)
times_sized zero p q = refl
times_sized (suc zero) p q = size_same _ _ _ _ _ _ (omega arith) (omega arith) (omega arith)
times_sized (suc (suc n)) p q =
    let h = times_sized (suc n) p q in
    let m : marks_of (times_then (suc n) p q) ≡ suc n * (1 + marks_of p) + marks_of q = ap (λ s. s.marks) h in
    let d : depth_of (times_then (suc n) p q) ≡ suc n + max (depth_of p) (depth_of q) = ap (λ s. s.depth) h in
    let k : parts_of (times_then (suc n) p q) ≡ suc n * (1 + parts_of p) + parts_of q = ap (λ s. s.parts) h in
    size_same _ _ _ _ _ _ (omega arith) (omega arith) (omega arith)

pub up_to_sized : (n : ℕ) (p : Expr) → size_of (up_to_more n p) ≡ up_to_size n (size_of p)
up_to_sized zero p = size_same _ _ _ _ _ _ (omega arith) (omega arith) (omega arith)
up_to_sized (suc n) p =
    let h = up_to_sized n p in
    let m : marks_of (up_to_more n p) ≡ n * (1 + marks_of p) + marks_of p = ap (λ s. s.marks) h in
    let d : depth_of (up_to_more n p) ≡ 2 * n + 1 + depth_of p = ap (λ s. s.depth) h in
    let k : parts_of (up_to_more n p) ≡ n * (3 + parts_of p) + parts_of p + 2 = ap (λ s. s.parts) h in
    size_same _ _ _ _ _ _ (omega arith) (omega arith) (omega arith)

pub exactly_sized : (n : ℕ) (p : Expr) → size_of (exactly n p) ≡ exactly_size n (size_of p)
exactly_sized zero p = refl
exactly_sized (suc n) p = times_sized n p p

pub between_sized : (n k : ℕ) (p : Expr) → size_of (between n k p) ≡ between_size n k (size_of p)
between_sized n zero p = exactly_sized n p
between_sized n (suc k) p = times_sized n p (up_to_more k p) ∙ ap (times_size n (size_of p)) (up_to_sized k p)

pub repeated_sized : (p : Expr) (k : Counts) → size_of (repeated p k) ≡ repeated_size (size_of p) k
repeated_sized p (n, None) = times_sized n p (star p)
repeated_sized p (n, Some m) = between_sized n (m - n) p

none_left : (n : ℕ) → (n == 0) ≡ true → n ≡ 0
none_left n e = grind (arith, nat_tests)

-- nothing is left of what is never to match
pub never : (p : Expr) (k : Counts) → is_never k ≡ true → repeated p k ≡ blank
never p (n, None) e = absurd (cc e)
never p (n, Some m) e =
    let k = and-to (n == 0) (m == 0) e in
    let a : n ≡ 0 = none_left n k.0 in let b : m ≡ 0 = none_left m k.1 in rw (a, b) refl

pub bounded_is : (s t : Size) → Some t ≡ bounded s → t ≡ s
bounded_is s t e = grind arith

none_of : {A : Type 0} (b : Bool) (x : A) → None ≡ cond b (Some x) None → b ≡ false
none_of true x e = absurd (cc e)
none_of false x e = refl

of_none : {A : Type 0} (b : Bool) (x : A) → b ≡ false → None ≡ cond b (Some x) None
of_none b x e = rw e refl

pub too_large : (p q : Expr) → (None ≡ fitting p → None ≡ fitting q) → None ≡ measured p → None ≡ measured q
too_large p q f e = of_none (fits q) (size_of q) (none_of (fits q) q (f (of_none (fits p) p (none_of (fits p) (size_of p) e))))

up_to_none : (k : ℕ) (p : Expr) → None ≡ fitting p → None ≡ fitting (up_to_more k p)
up_to_none zero p = no_more p (alt p blank) (omega arith) (omega arith) (omega arith)
up_to_none (suc k) p = no_more p (alt (seq p (up_to_more k p)) blank) (omega arith) (omega arith) (omega arith)

between_none : (n k : ℕ) (p : Expr) → (n ≡ 0 → k ≡ 0 → None ≡ fitting (between n k p)) → None ≡ fitting p → None ≡ fitting (between n k p)
between_none zero zero p h e = h refl refl
between_none zero (suc k) p h e = up_to_none k p e
between_none (suc n) zero p h e = no_last n p p e
between_none (suc n) (suc k) p h e = no_last (suc n) p (up_to_more k p) (up_to_none k p e)

none_twice : {A : Type 0} (n m : ℕ) → ((n == 0) && (m == 0)) ≡ false → n ≡ 0 → m ≡ 0 → A
none_twice n m e hn hm = absurd (grind (arith, nat_tests))

pub repeated_none : (p : Expr) (k : Counts) → is_never k ≡ false → None ≡ fitting p → None ≡ fitting (repeated p k)
repeated_none p (n, None) z e = no_last n p (star p) (no_more p (star p) (omega arith) (omega arith) (omega arith) e)
repeated_none p (n, Some m) z e = between_none n (m - n) p (λ hn hk. none_twice n m z hn (omega arith)) e
