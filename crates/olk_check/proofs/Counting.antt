-- A walk that counts those that accept, up to two.
use Rattle.std.proofs.Common.{◌≡◌, ℕ, suc, ◌+◌, ◌<◌, ◌==◌, Bool, true, false, cond, List, [], ◌∷◌, refl, sym, ap, ◌∙◌, arith}
use Rattle.std.proofs.lemmas.List.Sums.{sum_by-cons}
use Rattle.std.proofs.lemmas.Bool.Decides.{nat_tests}
use Rattle.olk_base.specs.Lawful.{Asking}
use Rattle.olk_tree.specs.Questions.{Question, some, how_many, exactly_one}
use Rattle.olk_check.specs.Asks.{OnlyAsks, IsAnswer, Asks}
use Rattle.olk_check.proofs.Asked.{only_same, only_then, answer_first, answer_then, verdict_of, join, settles, unasked}

-- one more, where one was found
abbrev pub with_found : Bool → ℕ → ℕ
with_found found n = cond found (suc n) n

module _ {X : Type 0} (f : X → Question) where
  -- those that are left, and the one that was found, if one was, are exactly one
  abbrev pub one_with : Bool → List X → Question
  one_with found xs = record { accepts = λ u. with_found found (how_many f u xs) == 1; asks = (some f xs).asks }

  count_first : (u : Bool) (x : X) (xs : List X) → how_many f u (x ∷ xs) ≡ with_found ((f x).accepts u) (how_many f u xs)
  count_first u x xs = sum_by-cons (λ y. cond ((f y).accepts u) 1 0) x xs ∙ by ((f x).accepts u)
    where
      by : (b : Bool) → cond b 1 0 + how_many f u xs ≡ with_found b (how_many f u xs)
      by true = omega arith
      by false = omega arith

  count_next : (u : Bool) (x : X) (xs : List X) (b : Bool) → b ≡ (f x).accepts u → how_many f u (x ∷ xs) ≡ with_found b (how_many f u xs)
  count_next u x xs b e = count_first u x xs ∙ ap (λ r. with_found r (how_many f u xs)) (sym e)

  module _ {a b : Asking} (x : X) (xs : List X) where
    refused_next : {c : Asking} {r : Bool} (found : Bool) → Asks a b (f x) false → Asks b c (one_with found xs) r → Asks a c (one_with found (x ∷ xs)) r
    refused_next {c} {r} found h k = join (one_with found (x ∷ xs)) r h k (λ u e g. g ∙ ap (λ n. with_found found n == 1) (sym (count_next u x xs false e))) (λ k u e. omega arith)

    accepted_next : {c : Asking} {r : Bool} → Asks a b (f x) true → Asks b c (one_with true xs) r → Asks a c (one_with false (x ∷ xs)) r
    accepted_next {c} {r} h k = join (one_with false (x ∷ xs)) r h k (λ u e g. g ∙ ap (λ n. n == 1) (sym (count_next u x xs true e))) (λ k u e. omega arith)

    accepted_twice : Asks a b (f x) true → Asks a b (one_with true (x ∷ xs)) false
    accepted_twice h = settles (one_with true (x ∷ xs)) false h (λ u e. let n = count_next u x xs true e in grind (arith, nat_tests)) (λ k u e. omega arith)

  none_next : (a : Asking) (found : Bool) → Asks a a (one_with found []) found
  none_next a true = unasked a true
  none_next a false = unasked a false

  -- those that are left, and whether one was found before them, decide about all
  pub record OneLeft (all rest : List X) (found : Bool) (a b : Asking) : Type 0 where
    pub goes_on : (end : Asking) (result : Bool) → Asks b end (one_with found rest) result → Asks a end (exactly_one f all) result
    pub count : (u : Bool) → IsAnswer a b u → how_many f u all ≡ with_found found (how_many f u rest)
    pub only : OnlyAsks a b

module _ {X : Type 0} {f : X → Question} {all : List X} where
  pub one_start : {a : Asking} → OneLeft f all all false a a
  one_start {a} = record { goes_on = λ c r h. h; count = λ u is. refl; only = only_same a }

  module _ {rest : List X} {found : Bool} {a b : Asking} (so_far : OneLeft f all rest found a b) where
    module _ {r : Bool} (is : found ≡ r) (none : rest ≡ []) where
      pub one_end : Asks a b (exactly_one f all) r
      one_end = so_far.goes_on b r (rw (is, none) (none_next f b r))

      pub count_end : (u : Bool) → IsAnswer a b u → how_many f u all ≡ with_found r 0
      count_end u so = so_far.count u so ∙ ap (λ g. with_found g (how_many f u rest)) is ∙ ap (λ l. with_found r (how_many f u l)) none

    module _ {x : X} {more : List X} {c : Asking} (next : rest ≡ x ∷ more) where
      count_on : (r : Bool) → Asks b c (f x) r → (u : Bool) → IsAnswer a c u → how_many f u all ≡ with_found found (with_found r (how_many f u more))
      count_on r k u so = so_far.count u (answer_first so_far.only k.only so) ∙ ap (λ l. with_found found (how_many f u l)) next
          ∙ ap (with_found found) (count_next f u x more r (verdict_of k (answer_then so_far.only k.only so)))

      pub one_refused : Asks b c (f x) false → OneLeft f all more found a c
      one_refused k = record {
        goes_on = λ d r l. so_far.goes_on d r (rw next (refused_next f x more found k l));
        count = count_on false k;
        only = only_then so_far.only k.only;
      }

      pub one_found : found ≡ false → Asks b c (f x) true → OneLeft f all more true a c
      one_found new k = record {
        goes_on = λ d r l. so_far.goes_on d r (rw (new, next) (accepted_next f x more k l));
        count = λ u so. count_on true k u so ∙ ap (λ g. with_found g (suc (how_many f u more))) new;
        only = only_then so_far.only k.only;
      }

      pub second_found : found ≡ true → Asks b c (f x) true → Asks a c (exactly_one f all) false
      second_found old k = so_far.goes_on c false (rw (old, next) (accepted_twice f x more k))

      pub count_several : found ≡ true → Asks b c (f x) true → (u : Bool) → IsAnswer a c u → 1 < how_many f u all
      count_several old k u so = let n = count_on true k u so ∙ ap (λ g. with_found g (suc (how_many f u more))) old in omega arith
