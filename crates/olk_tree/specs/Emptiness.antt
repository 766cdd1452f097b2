-- What is found is empty exactly where a question is accepted: of lists that stand one after the other, of each of a list, of the first of several steps.
use Rattle.std.specs.Prelude.{◌≡◌, Bool, ◌&&◌, List, [], ◌∷◌, ◌++◌}
use Rattle.std.specs.List.{flat_map}
use Rattle.std.proofs.Common.{refl, ◌∙◌}
use Rattle.olk_spec.specs.Names.{is_empty}
use Rattle.olk_spec.specs.Faults.{Fault}
use Rattle.olk_spec.proofs.Verdicts.{is_empty-append}
use Rattle.olk_tree.specs.Questions.{Question, every}
use Rattle.olk_tree.specs.Firsts.{or_else, first_of, head_of}

pub each_agrees : {X : Type 0} (f : X → List Fault) (q : X → Question) (u : Bool) → ((x : X) → is_empty (f x) ≡ (q x).accepts u) → (xs : List X) → is_empty (flat_map f xs) ≡ (every q xs).accepts u
each_agrees f q u h [] = refl
each_agrees f q u h (x ∷ xs) = is_empty-append (f x) (flat_map f xs) ∙ (λ i. h x i && each_agrees f q u h xs i)

pub both_agree : (fs gs : List Fault) {a b : Bool} → is_empty fs ≡ a → is_empty gs ≡ b → is_empty (fs ++ gs) ≡ (a && b)
both_agree fs gs e f = is_empty-append fs gs ∙ (λ i. e i && f i)

pub or_else_agrees : (fs gs : List Fault) {a b : Bool} → is_empty fs ≡ a → is_empty gs ≡ b → is_empty (or_else fs gs) ≡ (a && b)
or_else_agrees fs gs e f = split fs ∙ (λ i. e i && f i)
  where
    split : (fs : List Fault) → is_empty (or_else fs gs) ≡ (is_empty fs && is_empty gs)
    split [] = refl
    split (x ∷ xs) = refl

pub head_agrees : (fs : List Fault) {a : Bool} → is_empty fs ≡ a → is_empty (head_of fs) ≡ a
head_agrees [] e = e
head_agrees (f ∷ fs) e = e

pub first_of_agrees : {X : Type 0} (f : X → List Fault) (q : X → Question) (u : Bool) → ((x : X) → is_empty (f x) ≡ (q x).accepts u) → (xs : List X) → is_empty (first_of f xs) ≡ (every q xs).accepts u
first_of_agrees f q u h [] = refl
first_of_agrees f q u h (x ∷ xs) = or_else_agrees (f x) (first_of f xs) (h x) (first_of_agrees f q u h xs)
