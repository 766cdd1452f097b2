-- Two lists, pair by pair: what holds of each pair, of the lists; and lists that are made item by item.
use Rattle.std.proofs.Common.{◌≡◌, List, [], ◌∷◌, ◌++◌, sym, ◌∙◌, ap, subst, ◌≤◌, ℕ, Bool, true, ◌&&◌, ◌||◌, map, sum_by, refl, arith, append-nil, append_assoc}
use Rattle.std.specs.List.{AllZip, list_all, list_any, flat_map}
use Rattle.std.proofs.lemmas.List.Sums.{sum_by-cons}
use Rattle.olk_spec.specs.Faults.{Fault, ◌∼◌, like_empty}
use Rattle.olk_tree.specs.Questions.{Question, every, some, of_asked}
use Rattle.olk_tree.proofs.Answering.{more_within}
use Rattle.olk_spec.proofs.{Order.∼_append, Truth.and_from}

-- ---- lists that are made item by item

-- items are right for what they are made of
module _ {X N : Type 0} (Are : X → List N → Type 0) where
  -- behind what is made, items that are right for what is left are right for all
  abbrev pub SoFar : X → X → List N → Type 0
  SoFar all left made = (rest : List N) → Are left rest → Are all (made ++ rest)

  pub none_made : (all left : X) (made : List N) → left ≡ all → made ≡ [] → SoFar all left made
  none_made all left made e m rest h = subst (λ ns. Are all (ns ++ rest)) (sym m) (subst (λ x. Are x rest) e h)

  pub one_made : (all left after : X) (made new : List N) (n : N) → new ≡ made ++ n ∷ [] → ((rest : List N) → Are after rest → Are left (n ∷ rest)) → SoFar all left made → SoFar all after new
  one_made all left after made new n e right so_far rest h = subst (Are all) (sym (append_assoc made (n ∷ []) rest) ∙ ap (λ ns. ns ++ rest) (sym e)) (so_far (n ∷ rest) (right rest h))

  pub nothing_made : (all left after : X) (made : List N) → ((rest : List N) → Are after rest → Are left rest) → SoFar all left made → SoFar all after made
  nothing_made all left after made right so_far rest h = so_far rest (right rest h)

  pub all_made : (all left : X) (made : List N) → Are left [] → SoFar all left made → Are all made
  all_made all left made right so_far = subst (Are all) (append-nil made) (so_far [] right)

-- ---- two lists, pair by pair: what holds of each pair, of the lists

module _ {X Y : Type 0} (R : X → Y → Type 0) where
  pub AllZip-implies : (S : X → Y → Type 0) → ((x : X) (y : Y) → R x y → S x y) → (xs : List X) (ys : List Y) → AllZip R xs ys → AllZip S xs ys
  AllZip-implies S f [] [] h = tt
  AllZip-implies S f (x ∷ xs) (y ∷ ys) h = (f x y h.0, AllZip-implies S f xs ys h.1)
  AllZip-implies S f _ _ h = absurd h

  pub AllZip-append : (xs ks : List X) (ys ls : List Y) → AllZip R xs ys → AllZip R ks ls → AllZip R (xs ++ ks) (ys ++ ls)
  AllZip-append [] ks [] ls h k = k
  AllZip-append (x ∷ xs) ks (y ∷ ys) ls h k = (h.0, AllZip-append xs ks ys ls h.1 k)
  AllZip-append _ ks _ ls h k = absurd h

  pub same_map : {Z : Type 0} (f : X → Z) (g : Y → Z) → ((x : X) (y : Y) → R x y → f x ≡ g y) → (xs : List X) (ys : List Y) → AllZip R xs ys → map f xs ≡ map g ys
  same_map f g e [] [] h = refl
  same_map f g e (x ∷ xs) (y ∷ ys) h = λ i. e x y h.0 i ∷ same_map f g e xs ys h.1 i
  same_map f g e _ _ h = absurd h

  pub same_flat_map : {Z : Type 0} (f : X → List Z) (g : Y → List Z) → ((x : X) (y : Y) → R x y → f x ≡ g y) → (xs : List X) (ys : List Y) → AllZip R xs ys → flat_map f xs ≡ flat_map g ys
  same_flat_map f g e [] [] h = refl
  same_flat_map f g e (x ∷ xs) (y ∷ ys) h = λ i. e x y h.0 i ++ same_flat_map f g e xs ys h.1 i
  same_flat_map f g e _ _ h = absurd h

  pub like_flat_map : (f : X → List Fault) (g : Y → List Fault) → ((x : X) (y : Y) → R x y → f x ∼ g y) → (xs : List X) (ys : List Y) → AllZip R xs ys → flat_map f xs ∼ flat_map g ys
  like_flat_map f g e [] [] h = like_empty
  like_flat_map f g e (x ∷ xs) (y ∷ ys) h = ∼_append (e x y h.0) (like_flat_map f g e xs ys h.1)
  like_flat_map f g e _ _ h = absurd h

  pub all_hold : (f : X → Bool) → ((x : X) (y : Y) → R x y → f x ≡ true) → (xs : List X) (ys : List Y) → AllZip R xs ys → list_all f xs ≡ true
  all_hold f e [] [] h = refl
  all_hold f e (x ∷ xs) (y ∷ ys) h = and_from _ _ (e x y h.0) (all_hold f e xs ys h.1)
  all_hold f e _ _ h = absurd h

  -- questions that are asked one after another: of all, and until one accepts
  module _ (q : X → Question) (u : Bool) where
    module _ (a : Y → Bool) (e : (x : X) (y : Y) → R x y → (q x).accepts u ≡ a y) where
      pub every_accepts : (xs : List X) (ys : List Y) → AllZip R xs ys → (every q xs).accepts u ≡ list_all a ys
      every_accepts [] [] h = refl
      every_accepts (x ∷ xs) (y ∷ ys) h = λ i. e x y h.0 i && every_accepts xs ys h.1 i
      every_accepts _ _ h = absurd h

      pub some_accepts : (xs : List X) (ys : List Y) → AllZip R xs ys → (some q xs).accepts u ≡ list_any a ys
      some_accepts [] [] h = refl
      some_accepts (x ∷ xs) (y ∷ ys) h = λ i. e x y h.0 i || some_accepts xs ys h.1 i
      some_accepts _ _ h = absurd h

    module _ (n : Y → ℕ) (e : (x : X) (y : Y) → R x y → (q x).asks of_asked u ≤ n y) where
      pub every_asks : (xs : List X) (ys : List Y) → AllZip R xs ys → (every q xs).asks of_asked u ≤ sum_by n ys
      every_asks [] [] h = omega arith
      every_asks (x ∷ xs) (y ∷ ys) h = more_within _ _ _ _ _ (e x y h.0) (every_asks xs ys h.1) (sum_by-cons n y ys)
      every_asks _ _ h = absurd h

      pub some_asks : (xs : List X) (ys : List Y) → AllZip R xs ys → (some q xs).asks of_asked u ≤ sum_by n ys
      some_asks [] [] h = omega arith
      some_asks (x ∷ xs) (y ∷ ys) h = more_within _ _ _ _ _ (e x y h.0) (some_asks xs ys h.1) (sum_by-cons n y ys)
      some_asks _ _ h = absurd h
