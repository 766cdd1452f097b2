-- Faults of one step after another.
use Rattle.std.proofs.Common.{◌≡◌, List, [], ◌∷◌, ◌++◌, refl, sym, ap, ◌∙◌}
use Rattle.std.specs.List.{flat_map}
use Rattle.std.proofs.lemmas.Grind.{flat_map-append}
use Rattle.olk_spec.specs.Faults.{Fault}
use Rattle.olk_tree.specs.Firsts.{or_else, first_of}

pub or_around : (fs gs hs : List Fault) → or_else (or_else fs gs) hs ≡ or_else fs (or_else gs hs)
or_around [] gs hs = refl
or_around (f ∷ fs) gs hs = refl

module _ {X : Type 0} where
  pub none_of : (xs : List X) → flat_map (λ x. let none : List Fault = [] in none) xs ≡ []
  none_of [] = refl
  none_of (x ∷ xs) = none_of xs

  pub first_of-nothing : (xs : List X) → first_of (λ x. []) xs ≡ []
  first_of-nothing [] = refl
  first_of-nothing (x ∷ xs) = first_of-nothing xs

  module _ (f : X → List Fault) where
    first_of-append : (xs ys : List X) → first_of f (xs ++ ys) ≡ or_else (first_of f xs) (first_of f ys)
    first_of-append [] ys = refl
    first_of-append (x ∷ xs) ys = ap (or_else (f x)) (first_of-append xs ys) ∙ sym (or_around (f x) (first_of f xs) (first_of f ys))

    pub first_of-flat_map : {Y : Type 0} (h : Y → List X) (ys : List Y) → first_of f (flat_map h ys) ≡ first_of (λ y. first_of f (h y)) ys
    first_of-flat_map h [] = refl
    first_of-flat_map h (y ∷ ys) = first_of-append (h y) (flat_map h ys) ∙ ap (or_else _) (first_of-flat_map h ys)

    pub flat_map-flat_map : {Y : Type 0} (h : Y → List X) (ys : List Y) → flat_map f (flat_map h ys) ≡ flat_map (λ y. flat_map f (h y)) ys
    flat_map-flat_map h [] = refl
    flat_map-flat_map h (y ∷ ys) = flat_map-append f (h y) (flat_map h ys) ∙ ap (λ l. flat_map f (h y) ++ l) (flat_map-flat_map h ys)
