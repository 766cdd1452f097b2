-- Questions one after another.
use Rattle.std.proofs.Common.{◌≡◌, Bool, true, List, [], ◌∷◌, ◌++◌, refl, sym, ap, ◌∙◌, arith}
use Rattle.std.specs.List.{flat_map}
use Rattle.std.proofs.Math.Bool.{and_assoc, and-true}
use Rattle.olk_tree.specs.Questions.{Tally, Question, always, both, every}

-- two questions are one if they answer alike
pub alike : {m n : Question} → ((u : Bool) → m.accepts u ≡ n.accepts u) → ((k : Tally) (u : Bool) → m.asks k u ≡ n.asks k u) → m ≡ n
alike p q = λ i. record { accepts = λ u. p u i; asks = λ k u. q k u i }

pub both_first : (m : Question) → both (always true) m ≡ m
both_first m = alike (λ u. refl) (λ k u. omega arith)

pub both_last : (m : Question) → both m (always true) ≡ m
both_last m = alike (λ u. and-true _) (λ k u. omega arith)

pub both_around : (m n p : Question) → both (both m n) p ≡ both m (both n p)
both_around m n p = alike (λ u. and_assoc (m.accepts u) (n.accepts u) (p.accepts u)) (λ k u. omega arith)

module _ {X : Type 0} where
  pub every-nothing : (xs : List X) → every (λ x. always true) xs ≡ always true
  every-nothing [] = refl
  every-nothing (x ∷ xs) = both_first _ ∙ every-nothing xs

  module _ (g : X → Question) where
    pub every-append : (xs ys : List X) → every g (xs ++ ys) ≡ both (every g xs) (every g ys)
    every-append [] ys = sym (both_first (every g ys))
    every-append (x ∷ xs) ys = ap (both (g x)) (every-append xs ys) ∙ sym (both_around (g x) (every g xs) (every g ys))

    pub every-flat_map : {Y : Type 0} (h : Y → List X) (ys : List Y) → every g (flat_map h ys) ≡ every (λ y. every g (h y)) ys
    every-flat_map h [] = refl
    every-flat_map h (y ∷ ys) = every-append (h y) (flat_map h ys) ∙ ap (both _) (every-flat_map h ys)
