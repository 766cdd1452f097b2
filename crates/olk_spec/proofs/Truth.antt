-- Truth values, and lists of them.
use Rattle.std.specs.Prelude.{◌≡◌, ℕ, ◌+◌, Bool, true, false, not, cond, ◌&&◌, ◌||◌, ◌==◌, List, [], ◌∷◌, map, count_by, bytes_eq}
use Rattle.std.specs.List.{list_all, list_any}
use Rattle.std.proofs.Common.{refl, sym, ◌∙◌, ap, arith}
use Rattle.std.proofs.lemmas.List.Sums.{sum_by-cons}
use Rattle.std.proofs.Math.Bool.{and-true, or-true}
use mathlib.Core.Bool.{true≢false}
use Rattle.olk_spec.specs.Names.{Name, filter_once, put_if, is_among}
use Rattle.olk_spec.proofs.Each.{Each}
use Rattle.olk_spec.proofs.Walks.{same_name, bytes_eq-itself}

pub not_or_same : (b : Bool) → (not b || b) ≡ true
not_or_same true = refl
not_or_same false = refl

pub not_true : (b : Bool) → not b ≡ true → b ≡ false
not_true true e = absurd (true≢false (sym e))
not_true false e = refl

pub or_in_turn : (a b c : Bool) → (a || (b || c)) ≡ ((b || a) || c)
or_in_turn true true c = refl
or_in_turn true false c = refl
or_in_turn false true c = refl
or_in_turn false false c = refl

pub and_first : (a b : Bool) → (a && b) ≡ true → a ≡ true
and_first true b e = refl
and_first false b e = e

pub and_second : (a b : Bool) → (a && b) ≡ true → b ≡ true
and_second true b e = e
and_second false b e = absurd (true≢false (sym e))

pub or_second : (a b : Bool) → (a || b) ≡ true → a ≡ false → b ≡ true
or_second true b e f = absurd (true≢false f)
or_second false b e f = e

pub or_from : (a b : Bool) → b ≡ true → (a || b) ≡ true
or_from a b e = ap (λ c. a || c) e ∙ or-true a

pub and_from : (a b : Bool) → a ≡ true → b ≡ true → (a && b) ≡ true
and_from a b e f = λ i. e i && f i

pub same_truth : (a b : Bool) → (a ≡ true → b ≡ true) → (b ≡ true → a ≡ true) → a ≡ b
same_truth true b f g = sym (f refl)
same_truth false true f g = g refl
same_truth false false f g = refl

-- the parts of a verdict in another order
pub regroup : (w d p a c : Bool) → ((w && true) && ((((d && p) && a) && true) && c)) ≡ ((a && w) && ((d && p) && c))
regroup true true true a c = refl
regroup true true false true c = refl
regroup true true false false c = refl
regroup true false p true c = refl
regroup true false p false c = refl
regroup false d p true c = refl
regroup false d p false c = refl

pub dependency_truth : (h a : Bool) (e t m y : Bool) → e ≡ m → t ≡ y → (not h || cond a e t) ≡ ((not (h && not a) || y) && (not a || (not h || m)))
dependency_truth true true e t m y p q = p
dependency_truth true false e t m y p q = q ∙ sym (and-true y)
dependency_truth false true e t m y p q = refl
dependency_truth false false e t m y p q = refl

pub missing_truth : (b e : Bool) → (not (b && not e) || e) ≡ (not b || e)
missing_truth true true = refl
missing_truth _ _ = refl

pub unless_either : (a b c : Bool) → (not (not a && not b) || c) ≡ ((a || b) || c)
unless_either true b c = refl
unless_either false true c = refl
unless_either false false c = refl

pub among_truth : (o t c : Bool) → (not (o && (t && true)) || c) ≡ (not t || (not o || c))
among_truth true true c = refl
among_truth true false c = refl
among_truth false true c = refl
among_truth false false c = refl

-- ---- lists

module _ {A : Type 0} (f : A → Bool) where
  step_any : (b : Bool) (n : ℕ) → (b || not (n == 0)) ≡ not (cond b 1 0 + n == 0)
  step_any true n = grind arith
  step_any false n = grind arith

  pub some_counted : (xs : List A) → list_any f xs ≡ not (count_by f xs == 0)
  some_counted [] = refl
  some_counted (x ∷ xs) = (λ i. f x || some_counted xs i) ∙ step_any (f x) (count_by f xs) ∙ sym (ap (λ n. not (n == 0)) (sum_by-cons (λ y. cond (f y) 1 0) x xs))

module _ {B : Type 0} (t : Name → Bool) where
  among_step : (n : Name) (m : Name × B) (ms : List (Name × B)) (r s : Bool) → bytes_eq n m.0 ≡ r → t m.0 ≡ s → is_among n (map (λ k. k.0) (filter_once (λ k. t k.0) ms)) ≡ (t n && is_among n (map (λ k. k.0) ms)) → is_among n (map (λ k. k.0) (put_if s m (filter_once (λ k. t k.0) ms))) ≡ (t n && (r || is_among n (map (λ k. k.0) ms)))
  among_step n m ms true true e f h =
      let same : t n ≡ true = ap t (same_name n m.0 e) ∙ f in
      (λ i. e i || is_among n (map (λ k. k.0) (filter_once (λ k. t k.0) ms))) ∙ sym (ap (λ b. b && true) same)
  among_step n m ms true false e f h =
      let same : t n ≡ false = ap t (same_name n m.0 e) ∙ f in
      h ∙ ap (λ b. b && is_among n (map (λ k. k.0) ms)) same ∙ sym (ap (λ b. b && true) same)
  among_step n m ms false true e f h = (λ i. e i || is_among n (map (λ k. k.0) (filter_once (λ k. t k.0) ms))) ∙ h
  among_step n m ms false false e f h = h

  -- a name is among those that pass a test of names if it passes and is there
  pub is_among-filter_once : (n : Name) (ms : List (Name × B)) → is_among n (map (λ k. k.0) (filter_once (λ k. t k.0) ms)) ≡ (t n && is_among n (map (λ k. k.0) ms))
  is_among-filter_once n [] = by (t n)
    where
      by : (b : Bool) → false ≡ (b && false)
      by true = refl
      by false = refl
  is_among-filter_once n (m ∷ ms) = among_step n m ms _ _ refl refl (is_among-filter_once n ms)

module _ {B : Type 0} where
  among_later : (m : Name × B) (ms ks : List (Name × B)) → Each (λ k. is_among k.0 (map (λ e. e.0) ms) ≡ true) ks → Each (λ k. is_among k.0 (map (λ e. e.0) (m ∷ ms)) ≡ true) ks
  among_later m ms [] h = tt
  among_later m ms (k ∷ ks) h = (ap (λ b. bytes_eq k.0 m.0 || b) h.0 ∙ or-true (bytes_eq k.0 m.0), among_later m ms ks h.1)

  pub Each-among : (ms : List (Name × B)) → Each (λ m. is_among m.0 (map (λ e. e.0) ms) ≡ true) ms
  Each-among [] = tt
  Each-among (m ∷ ms) = (ap (λ b. b || is_among m.0 (map (λ e. e.0) ms)) (bytes_eq-itself m.0), among_later m ms ms (Each-among ms))

module _ {A : Type 0} (f : A → Bool) where
  pub each_true : (xs : List A) → list_all f xs ≡ true → Each (λ x. f x ≡ true) xs
  each_true [] e = tt
  each_true (x ∷ xs) e = (and_first (f x) (list_all f xs) e, each_true xs (and_second (f x) (list_all f xs) e))

  pub all_true : (xs : List A) → Each (λ x. f x ≡ true) xs → list_all f xs ≡ true
  all_true [] h = refl
  all_true (x ∷ xs) h = and_from (f x) (list_all f xs) h.0 (all_true xs h.1)

  either_more : (a b c d : Bool) → (a || c) ≡ true → (c ≡ true → d ≡ true) → ((a || b) || d) ≡ true
  either_more false false c d e h = h e
  either_more _ _ c d e h = refl

  pub any_of_either : (g : A → Bool) (xs : List A) → list_any f xs ≡ true → list_any (λ x. f x || g x) xs ≡ true
  any_of_either g [] e = e
  any_of_either g (x ∷ xs) e = either_more (f x) (g x) (list_any f xs) (list_any (λ y. f y || g y) xs) e (any_of_either g xs)
