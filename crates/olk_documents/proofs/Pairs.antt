-- Two lists side by side.
use Rattle.std.proofs.Common.{◌≡◌, ℕ, zero, suc, ◌+◌, List, [], ◌∷◌, drop, map, refl, ap, sym, ◌∙◌}
use Rattle.std.specs.List.{zip}

abbrev pub with_node : {A B X : Type 0} → (A → B) → A × X → B × X
with_node f e = (f e.0, e.1)

pub pairs-map : {A B X : Type 0} (f : A → B) (ys : List A) (xs : List X) → zip (map f ys) xs ≡ map (with_node f) (zip ys xs)
pairs-map f [] xs = refl
pairs-map f (a ∷ ys) [] = refl
pairs-map f (a ∷ ys) (x ∷ xs) = ap (λ l. (f a, x) ∷ l) (pairs-map f ys xs)

module _ {A B : Type 0} where
  drop_pairs : (i : ℕ) (ys : List A) (bs : List B) → drop i (zip ys bs) ≡ zip (drop i ys) (drop i bs)
  drop_pairs zero ys bs = refl
  drop_pairs (suc i) [] bs = refl
  drop_pairs (suc i) (a ∷ ys) [] = zip_none (drop i ys)
    where
      zip_none : (ys : List A) → [] ≡ zip {X = B} ys []
      zip_none [] = refl
      zip_none (y ∷ ys) = refl
  drop_pairs (suc i) (a ∷ ys) (b ∷ bs) = drop_pairs i ys bs

  module _ (ys : List A) (bs : List B) (i : ℕ) where
    pub pairs_next : {a : A} {b : B} → drop i ys ≡ a ∷ drop (i + 1) ys → drop i bs ≡ b ∷ drop (i + 1) bs → drop i (zip ys bs) ≡ (a, b) ∷ drop (i + 1) (zip ys bs)
    pairs_next {a} {b} e f = drop_pairs i ys bs ∙ (λ j. zip (e j) (f j)) ∙ ap (λ l. (a, b) ∷ l) (sym (drop_pairs (i + 1) ys bs))

    pub first_ends : drop i ys ≡ [] → drop i (zip ys bs) ≡ []
    first_ends e = drop_pairs i ys bs ∙ ap (λ l. zip l (drop i bs)) e

    pub second_ends : drop i bs ≡ [] → drop i (zip ys bs) ≡ []
    second_ends e = drop_pairs i ys bs ∙ ap (zip (drop i ys)) e ∙ none (drop i ys)
      where
        none : (ys : List A) → zip {X = B} ys [] ≡ []
        none [] = refl
        none (y ∷ ys) = refl
