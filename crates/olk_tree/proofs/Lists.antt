-- What a walk over a list has left.
use Rattle.std.proofs.Common.{◌≡◌, ℕ, ◌+◌, ◌<◌, ◌≤◌, List, [], ◌∷◌, length, get_or, drop, sym, ap, subst, ◌∙◌}
use Rattle.std.proofs.lemmas.List.{at_drop_more, drop_all}

module _ {X : Type 0} {xs ys : List X} {i : ℕ} (same : ys ≡ xs) where
  -- the element at i, and those after it
  pub next_at : {x : X} → x ≡ get_or ys i x → i < length ys → drop i xs ≡ x ∷ drop (i + 1) xs
  next_at {x} is lt = at_drop_more (λ l. l) xs i x (subst (λ l. i < length l) same lt) ∙ ap (λ y. y ∷ drop (i + 1) xs) (sym (is ∙ ap (λ l. get_or l i x) same))

  pub past_end : length ys ≤ i → drop i xs ≡ []
  past_end le = drop_all i xs (subst (λ l. length l ≤ i) same le)
