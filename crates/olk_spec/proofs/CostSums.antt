-- Sums of costs.
use Rattle.std.specs.Prelude.{◌≡◌, List, [], ◌∷◌, ◌++◌, map}
use Rattle.std.proofs.Common.{refl, sym, ◌∙◌, ap, arith}
use Rattle.olk_spec.specs.Costs.{Cost, no_cost, ◌⊕◌, total_cost}

costs_alike : {c d : Cost} → c.places ≡ d.places → c.leaf_places ≡ d.leaf_places → c.pattern_places ≡ d.pattern_places → c.table_asks ≡ d.table_asks → c ≡ d
costs_alike p l m t = λ i. record { places = p i; leaf_places = l i; pattern_places = m i; table_asks = t i }

pub sum_around : (c d e : Cost) → (c ⊕ d) ⊕ e ≡ c ⊕ (d ⊕ e)
sum_around c d e = costs_alike (omega arith) (omega arith) (omega arith) (omega arith)

pub sum_first : (c : Cost) → no_cost ⊕ c ≡ c
sum_first c = costs_alike (omega arith) (omega arith) (omega arith) (omega arith)

pub sum_last : (c : Cost) → c ⊕ no_cost ≡ c
sum_last c = costs_alike (omega arith) (omega arith) (omega arith) (omega arith)

pub sum_turned : (c d : Cost) → c ⊕ d ≡ d ⊕ c
sum_turned c d = costs_alike (omega arith) (omega arith) (omega arith) (omega arith)

pub total_cost-append : {X : Type 0} (f : X → Cost) (xs ys : List X) → total_cost f (xs ++ ys) ≡ total_cost f xs ⊕ total_cost f ys
total_cost-append f [] ys = sym (sum_first _)
total_cost-append f (x ∷ xs) ys = ap (λ c. f x ⊕ c) (total_cost-append f xs ys) ∙ sym (sum_around _ _ _)

pub total_cost-map : {X Y : Type 0} (f : X → Cost) (g : Y → Cost) (h : Y → X) → ((y : Y) → f (h y) ≡ g y) → (ys : List Y) → total_cost f (map h ys) ≡ total_cost g ys
total_cost-map f g h e [] = refl
total_cost-map f g h e (y ∷ ys) = λ i. e y i ⊕ total_cost-map f g h e ys i
