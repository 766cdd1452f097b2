-- Answers to questions that are asked together.
use Rattle.std.proofs.Common.{◌≡◌, ◌<◌, Bool, true, false, List, [], ◌∷◌, length, drop, get_or, refl, sym, subst, ap, ◌∙◌, arith}
use Rattle.std.proofs.lemmas.List.{drop_all}
use Rattle.olk_base.specs.Lawful.{Asking}
use Rattle.olk_tree.specs.Questions.{Question, always, every}
use Rattle.olk_tree.proofs.Lists.{next_at}
use Rattle.olk_tree.proofs.Questions.{both_around}
use Rattle.olk_check.specs.declared.accepted.Accepted.{Accepted}
use Rattle.olk_check.specs.declared.accepted.Accepted.TheVariants.{None, One, Two}
use Rattle.olk_check.specs.Asks.{Asks}
use Rattle.olk_check.specs.Together.{is_accepted, one_if, AsksOne, AsksTwo, AsksFirst}
use Rattle.olk_check.proofs.Asked.{asks_as, unasked}
use Rattle.olk_check.proofs.Walks.{AllLeft, both_go_on, both_stop, all_go_on}

module _ {a b : Asking} where
  module _ {q : Question} where
    one_said : (r : Bool) → Asks a b q r → AsksOne a b q (one_if r)
    one_said true h = h
    one_said false h = h

    pub answered_one : {r : Bool} {s : Accepted} → s ≡ one_if r → Asks a b q r → AsksOne a b q s
    answered_one e h = rw e (one_said _ h)

-- an answer that was asked together, by itself
pub one_answered : {a b : Asking} {p q : Question} {r : Bool} (s : Accepted) → p ≡ q → r ≡ is_accepted s → AsksOne a b p s → Asks a b q r
one_answered {a} {b} {q = q} None same e h = subst (Asks a b q) (sym e) (asks_as same h)
one_answered {a} {b} {q = q} One same e h = subst (Asks a b q) (sym e) (asks_as same h)
one_answered Two same e h = absurd h

-- the first of a list
module _ {X : Type 0} (f : X → Question) (a b : Asking) where
  one_first : (x : X) (xs : List X) (s : Accepted) → AsksOne a b (f x) s → AsksFirst a b f (x ∷ xs) s
  one_first x xs None h = both_stop (every f xs) h
  one_first x xs One h = h
  one_first x xs Two h = absurd h

  two_first : (x y : X) (xs : List X) (s : Accepted) → AsksTwo a b (f x) (f y) s → AsksFirst a b f (x ∷ y ∷ xs) s
  two_first x y xs None h = rw (← both_around (f x) (f y) (every f xs)) (both_stop (every f xs) h)
  two_first x y xs One h = absurd h
  two_first x y xs Two h = h

  pub first_one : {x y : X} {xs ys : List X} (s : Accepted) → ys ≡ x ∷ xs → x ≡ y → AsksOne a b (f y) s → AsksFirst a b f ys s
  first_one {x} {y} {xs} s e is h = rw e (one_first x xs s (rw is h))

  pub first_two : {x y : X} {xs ys : List X} (s : Accepted) → ys ≡ x ∷ y ∷ xs → AsksTwo a b (f x) (f y) s → AsksFirst a b f ys s
  first_two {x} {y} {xs} s e h = rw e (two_first x y xs s h)

-- a condition that was found out
pub said : (a : Asking) {p r : Bool} → r ≡ p → Asks a a (always p) r
said a e = rw e (unasked a _)

-- a walk over a list, whose first one or two are asked together
module _ {X : Type 0} {f : X → Question} {all : List X} {a b c : Asking} where
  pub refused_left : {rest : List X} {s : Accepted} → AllLeft f all rest a b → s ≡ None → AsksFirst b c f rest s → Asks a c (every f all) false
  refused_left h is k = h.goes_on c false (rw is at k)

  one_left : (rest : List X) → AllLeft f all rest a b → AsksFirst b c f rest One → AllLeft f all (drop 1 rest) a c
  one_left [] h k = absurd k
  one_left (x ∷ xs) h k = all_go_on h refl k

  two_left : (rest : List X) → AllLeft f all rest a b → AsksFirst b c f rest Two → AllLeft f all (drop 1 (drop 1 rest)) a c
  two_left (x ∷ y ∷ xs) h k = record { goes_on = λ d r l. h.goes_on d r (rw (← both_around (f x) (f y) (every f xs)) (both_go_on k l)) }
  two_left _ h k = absurd k

  pub go_on_behind_one : {rest : List X} {s : Accepted} → AllLeft f all rest a b → s ≡ One → AsksFirst b c f rest s → AllLeft f all (drop 1 rest) a c
  go_on_behind_one h is k = one_left _ h (rw is at k)

  pub go_on_behind_two : {rest : List X} {s : Accepted} → AllLeft f all rest a b → s ≡ Two → AsksFirst b c f rest s → AllLeft f all (drop 1 (drop 1 rest)) a c
  go_on_behind_two h is k = two_left _ h (rw is at k)

module _ {X : Type 0} (f : X → Question) (b c : Asking) where
  two_there : (rest : List X) → AsksFirst b c f rest Two → 1 < length rest
  two_there (x ∷ y ∷ xs) k = omega arith
  two_there _ k = absurd k

  pub two_are_left : (rest : List X) {s : Accepted} → s ≡ Two → AsksFirst b c f rest s → 1 < length rest
  two_are_left rest is k = two_there rest (rw is at k)

-- what a list is, by its first, and by its first two
module _ {X : Type 0} {xs : List X} {x : X} where
  pub by_first : x ≡ get_or xs 0 x → 0 < length xs → xs ≡ x ∷ drop 1 xs
  by_first is lt = next_at refl is lt

  pub by_first_two : {y : X} → x ≡ get_or xs 0 x → y ≡ get_or xs 1 y → 1 < length xs → xs ≡ x ∷ y ∷ drop 2 xs
  by_first_two first second lt = by_first first (omega arith) ∙ ap (λ l. x ∷ l) (next_at refl second lt)

  pub by_only : x ≡ get_or xs 0 x → 0 < length xs → length xs < 2 → xs ≡ x ∷ []
  by_only is lt few = by_first is lt ∙ ap (λ l. x ∷ l) (drop_all 1 xs (omega arith))
