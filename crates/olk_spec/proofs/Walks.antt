-- Walks over two lists: a walk over the members in place of one over the declared names, and the inner walk outside.
use Rattle.std.specs.Prelude.{◌≡◌, ⊤, Bool, true, false, cond, not, ◌&&◌, ◌||◌, List, [], ◌∷◌, ◌++◌, map, option_to_list, Option, Some, None, bytes_eq}
use Rattle.std.specs.List.{flat_map, list_all}
use Rattle.std.specs.Ordering.{nat_cmp, is_eq}
use Rattle.std.specs.Bool.{one_answer}
use Rattle.std.specs.Cmp.Lexicographic.{slice_cmp, bytes_decides}
use Rattle.std.specs.declared.cmp.Ordering.{Ordering}
use Rattle.std.specs.declared.cmp.Ordering.TheVariants.{Less, Equal, Greater}
use Rattle.std.proofs.Common.{refl, sym, ◌∙◌, ap, subst}
use Rattle.std.proofs.lemmas.List.Folds.{list_all-append}
use mathlib.Core.Path.{subst₂}
use mathlib.Core.Bool.{true≢false}
use Rattle.std.proofs.lemmas.Map.Text.{is_eq-slice_cmp}
use Rattle.std.proofs.Math.Bool.{and-true}
use Rattle.olk_spec.specs.Names.{Name, lookup_name, first_if_equal, filter_once, put_if, is_among}
use Rattle.olk_spec.specs.Malformed.{has_repeat}
use Rattle.olk_spec.specs.Faults.{Fault, ◌∼◌}
use Rattle.olk_spec.proofs.Each.{Each, On}
use Rattle.olk_spec.proofs.Order.{∼_inside_out}

-- ---- names

pub same_name : (a b : Name) → bytes_eq a b ≡ true → a ≡ b
same_name a b e = (bytes_decides a b).0 e

pub bytes_eq-itself : (a : Name) → bytes_eq a a ≡ true
bytes_eq-itself a = (bytes_decides a a).1 refl

pub bytes_eq-sym : (a b : Name) → bytes_eq a b ≡ bytes_eq b a
bytes_eq-sym a b = one_answer _ _ (bytes_decides a b) (λ e. sym ((bytes_decides b a).0 e), λ e. (bytes_decides b a).1 (sym e))

-- no name stands twice
abbrev pub Distinct : {X : Type 0} → List (Name × X) → Type 0
Distinct [] = ⊤
Distinct (m ∷ ms) = Each (λ k. bytes_eq m.0 k.0 ≡ false) ms × Distinct ms

pub neither : (a b : Bool) → (a || b) ≡ false → (a ≡ false) × (b ≡ false)
neither true b e = absurd (true≢false e)
neither false b e = (refl, e)

module _ {X : Type 0} where
  other_names : (n : Name) (ms : List (Name × X)) → is_among n (map (λ m. m.0) ms) ≡ false → Each (λ k. bytes_eq n k.0 ≡ false) ms
  other_names n [] e = tt
  other_names n (m ∷ ms) e = let p = neither (bytes_eq n m.0) (is_among n (map (λ k. k.0) ms)) e in (p.0, other_names n ms p.1)

  pub Distinct-from : (ms : List (Name × X)) → has_repeat (map (λ m. m.0) ms) ≡ false → Distinct ms
  Distinct-from [] e = tt
  Distinct-from (m ∷ ms) e = let p = neither (is_among m.0 (map (λ k. k.0) ms)) (has_repeat (map (λ k. k.0) ms)) e in (other_names m.0 ms p.0, Distinct-from ms p.1)

module _ {X Y : Type 0} (f : X → Y) where
  others-map : (n : Name) (ms : List (Name × X)) → Each (λ k. bytes_eq n k.0 ≡ false) ms → Each {X = Name × Y} (λ k. bytes_eq n k.0 ≡ false) (map (λ m. (m.0, f m.1)) ms)
  others-map n [] h = tt
  others-map n (m ∷ ms) h = (h.0, others-map n ms h.1)

  pub Distinct-map : (ms : List (Name × X)) → Distinct ms → Distinct (map (λ m. (m.0, f m.1)) ms)
  Distinct-map [] h = tt
  Distinct-map (m ∷ ms) h = (others-map m.0 ms h.0, Distinct-map ms h.1)

-- ---- look-ups

-- what a look-up finds has the name that was looked up
module _ {X : Type 0} (P : Name → X → Type 0) where
  pub On-lookup_name-named : (n : Name) (ms : List (Name × X)) → Each (λ m. P m.0 m.1) ms → On (P n) (lookup_name n ms)
  On-lookup_name-named n [] h = tt
  On-lookup_name-named n (m ∷ ms) h = by (slice_cmp nat_cmp n m.0) (is_eq-slice_cmp n m.0) (On-lookup_name-named n ms h.1)
    where
      by : (o : Ordering) → is_eq o ≡ bytes_eq n m.0 → On (P n) (lookup_name n ms) → On (P n) (first_if_equal o m.1 (lookup_name n ms))
      by Less q g = g
      by Greater q g = g
      by Equal q g = subst (λ a. P a m.1) (sym (same_name n m.0 (sym q))) h.0

module _ {B C : Type 0} (g : B → List C) where
  nothing : (n : Name) (ms : List (Name × B)) → Each (λ k. bytes_eq n k.0 ≡ false) ms → flat_map (λ m. cond (bytes_eq n m.0) (g m.1) []) ms ≡ []
  nothing n [] h = refl
  nothing n (m ∷ ms) h = (λ i. cond (h.0 i) (g m.1) [] ++ nothing n ms h.1 i)

  -- what is done at the member that a look-up finds is done at each member of that name
  pub at_lookup : (n : Name) (ms : List (Name × B)) → Distinct ms → flat_map g (option_to_list (lookup_name n ms)) ≡ flat_map (λ m. cond (bytes_eq n m.0) (g m.1) []) ms
  at_lookup n [] d = refl
  at_lookup n (m ∷ ms) d = by (slice_cmp nat_cmp n m.0) (is_eq-slice_cmp n m.0) (at_lookup n ms d.1)
    where
      by : (o : Ordering) → is_eq o ≡ bytes_eq n m.0 → flat_map g (option_to_list (lookup_name n ms)) ≡ flat_map (λ k. cond (bytes_eq n k.0) (g k.1) []) ms → flat_map g (option_to_list (first_if_equal o m.1 (lookup_name n ms))) ≡ cond (bytes_eq n m.0) (g m.1) [] ++ flat_map (λ k. cond (bytes_eq n k.0) (g k.1) []) ms
      by Less q h = h ∙ (λ i. cond (q i) (g m.1) [] ++ flat_map (λ k. cond (bytes_eq n k.0) (g k.1) []) ms)
      by Greater q h = h ∙ (λ i. cond (q i) (g m.1) [] ++ flat_map (λ k. cond (bytes_eq n k.0) (g k.1) []) ms)
      by Equal q h = λ i. cond (q i) (g m.1) [] ++ sym (nothing n ms (subst (λ a. Each (λ k. bytes_eq a k.0 ≡ false) ms) (sym (same_name n m.0 (sym q))) d.0)) i

-- each member is the one that a look-up finds under its name
module _ {X : Type 0} where
  found_later : (m : Name × X) (ms : List (Name × X)) (n : Name) (x : X) → bytes_eq m.0 n ≡ false → lookup_name n ms ≡ Some x → lookup_name n (m ∷ ms) ≡ Some x
  found_later m ms n x e h = by (slice_cmp nat_cmp n m.0) (is_eq-slice_cmp n m.0)
    where
      by : (o : Ordering) → is_eq o ≡ bytes_eq n m.0 → first_if_equal o m.1 (lookup_name n ms) ≡ Some x
      by Equal q = absurd (true≢false (q ∙ bytes_eq-sym n m.0 ∙ e))
      by _ q = h

  found_here : (m : Name × X) (ms : List (Name × X)) → lookup_name m.0 (m ∷ ms) ≡ Some m.1
  found_here m ms = by (slice_cmp nat_cmp m.0 m.0) (is_eq-slice_cmp m.0 m.0 ∙ bytes_eq-itself m.0)
    where
      by : (o : Ordering) → is_eq o ≡ true → first_if_equal o m.1 (lookup_name m.0 ms) ≡ Some m.1
      by Equal q = refl
      by _ q = absurd (true≢false (sym q))

  all_later : (m : Name × X) (ms ks : List (Name × X)) → Each (λ k. bytes_eq m.0 k.0 ≡ false) ks → Each (λ k. lookup_name k.0 ms ≡ Some k.1) ks → Each (λ k. lookup_name k.0 (m ∷ ms) ≡ Some k.1) ks
  all_later m ms [] d h = tt
  all_later m ms (k ∷ ks) d h = (found_later m ms k.0 k.1 d.0 h.0, all_later m ms ks d.1 h.1)

  pub Each-found : (ms : List (Name × X)) → Distinct ms → Each (λ m. lookup_name m.0 ms ≡ Some m.1) ms
  Each-found [] d = tt
  Each-found (m ∷ ms) d = (found_here m ms, all_later m ms ms d.0 (Each-found ms d.1))

-- ---- each declared name looked up among the members, and each member looked up among the declared names

module _ {A B C : Type 0} (f : A → Name → B → List C) where
  pub met : (a b : Name) (x : A) (y : B) → cond (bytes_eq a b) (f x a y) [] ≡ cond (bytes_eq b a) (f x b y) []
  met a b x y = by (bytes_eq a b) refl
    where
      by : (r : Bool) → bytes_eq a b ≡ r → cond (bytes_eq a b) (f x a y) [] ≡ cond (bytes_eq b a) (f x b y) []
      by true e = subst (λ c. cond (bytes_eq a b) (f x a y) [] ≡ cond (bytes_eq c a) (f x c y) []) (same_name a b e) (ap (λ r. cond r (f x a y) []) (ap (λ c. bytes_eq a c) (sym (same_name a b e))))
      by false e = ap (λ r. cond r (f x a y) []) e ∙ ap (λ r. cond r (f x b y) []) (sym e ∙ bytes_eq-sym a b)

module _ {A B : Type 0} (f : A → Name → B → List Fault) where
  pub ∼_other_side : (es : List (Name × A)) (ms : List (Name × B)) → Distinct es → Distinct ms →
      flat_map (λ e. flat_map (λ y. f e.1 e.0 y) (option_to_list (lookup_name e.0 ms))) es ∼ flat_map (λ m. flat_map (λ x. f x m.0 m.1) (option_to_list (lookup_name m.0 es))) ms
  ∼_other_side es ms d c = subst₂ (λ a b. a ∼ b)
      (λ i. flat_map (λ e. sym (at_lookup (λ y. f e.1 e.0 y) e.0 ms c) i) es)
      (λ i. flat_map (λ m. (ap (λ h. flat_map h es) (λ j e. met f e.0 m.0 e.1 m.1 j) ∙ sym (at_lookup (λ x. f x m.0 m.1) m.0 es d)) i) ms)
      (∼_inside_out (λ e m. cond (bytes_eq e.0 m.0) (f e.1 e.0 m.1) []) es ms)

-- ---- the same for truth

module _ {A B : Type 0} where
  pub list_all-flat_map : (f : B → Bool) (g : A → List B) (xs : List A) → list_all f (flat_map g xs) ≡ list_all (λ x. list_all f (g x)) xs
  list_all-flat_map f g [] = refl
  list_all-flat_map f g (x ∷ xs) = list_all-append f (g x) (flat_map g xs) ∙ ap (λ b. list_all f (g x) && b) (list_all-flat_map f g xs)

pub and_middle : (a b c d : Bool) → ((a && b) && (c && d)) ≡ ((a && c) && (b && d))
and_middle true true c d = refl
and_middle true false true d = refl
and_middle _ _ _ d = refl

module _ {A : Type 0} where
  pub list_all-and : (f g : A → Bool) (xs : List A) → list_all (λ x. f x && g x) xs ≡ (list_all f xs && list_all g xs)
  list_all-and f g [] = refl
  list_all-and f g (x ∷ xs) = ap (λ b. (f x && g x) && b) (list_all-and f g xs) ∙ and_middle (f x) (g x) (list_all f xs) (list_all g xs)

  pub list_all-true : (xs : List A) → list_all (λ x. true) xs ≡ true
  list_all-true [] = refl
  list_all-true (x ∷ xs) = list_all-true xs

  pub list_all-same : (f g : A → Bool) (xs : List A) → Each (λ x. f x ≡ g x) xs → list_all f xs ≡ list_all g xs
  list_all-same f g [] h = refl
  list_all-same f g (x ∷ xs) h = λ i. h.0 i && list_all-same f g xs h.1 i

  pub list_all-alike : {P : A → Type 0} {f g : A → Bool} → ((x : A) → P x → f x ≡ g x) → (xs : List A) → Each P xs → list_all f xs ≡ list_all g xs
  list_all-alike h [] e = refl
  list_all-alike h (x ∷ xs) e = λ i. h x e.0 i && list_all-alike h xs e.1 i

  pub list_all-where : (f : A → Bool) (b : Bool) (x : A) → list_all f (put_if b x []) ≡ (not b || f x)
  list_all-where f true x = and-true (f x)
  list_all-where f false x = refl

  pub list_all-filter_once : (f t : A → Bool) (xs : List A) → list_all f (filter_once t xs) ≡ list_all (λ x. not (t x) || f x) xs
  list_all-filter_once f t [] = refl
  list_all-filter_once f t (x ∷ xs) = by (t x) (list_all-filter_once f t xs)
    where
      by : (b : Bool) → list_all f (filter_once t xs) ≡ list_all (λ y. not (t y) || f y) xs → list_all f (put_if b x (filter_once t xs)) ≡ ((not b || f x) && list_all (λ y. not (t y) || f y) xs)
      by true e = ap (λ b. f x && b) e
      by false e = e

pub list_all-inside_out : {A B : Type 0} (f : A → B → Bool) (xs : List A) (ys : List B) → list_all (λ x. list_all (λ y. f x y) ys) xs ≡ list_all (λ y. list_all (λ x. f x y) xs) ys
list_all-inside_out f [] ys = sym (list_all-true ys)
list_all-inside_out f (x ∷ xs) ys = ap (λ b. list_all (λ y. f x y) ys && b) (list_all-inside_out f xs ys) ∙ sym (list_all-and (λ y. f x y) (λ y. list_all _ xs) ys)

module _ {B : Type 0} (f : B → Bool) where
  all_of_found : (o : Option B) → list_all f (option_to_list o) ≡ list_all f (flat_map (λ y. y ∷ []) (option_to_list o))
  all_of_found None = refl
  all_of_found (Some y) = refl

  all_at_lookup : (n : Name) (ms : List (Name × B)) → Distinct ms → list_all f (option_to_list (lookup_name n ms)) ≡ list_all (λ m. list_all f (cond (bytes_eq n m.0) (m.1 ∷ []) [])) ms
  all_at_lookup n ms d = all_of_found (lookup_name n ms) ∙ ap (list_all f) (at_lookup (λ y. y ∷ []) n ms d) ∙ list_all-flat_map f (λ m. cond (bytes_eq n m.0) (m.1 ∷ []) []) ms

module _ {A B : Type 0} (f : A → B → Bool) where
  turned : (a b : Name) (x : A) (y : B) → list_all (λ z. f x z) (cond (bytes_eq a b) (y ∷ []) []) ≡ list_all (λ z. f z y) (cond (bytes_eq b a) (x ∷ []) [])
  turned a b x y = by (bytes_eq a b) (bytes_eq b a) (bytes_eq-sym a b)
    where
      by : (p q : Bool) → p ≡ q → list_all (λ z. f x z) (cond p (y ∷ []) []) ≡ list_all (λ z. f z y) (cond q (x ∷ []) [])
      by true false e = absurd (true≢false e)
      by false true e = absurd (true≢false (sym e))
      by _ _ e = refl

  pub list_all-other_side : (es : List (Name × A)) (ms : List (Name × B)) → Distinct es → Distinct ms →
      list_all (λ e. list_all (λ y. f e.1 y) (option_to_list (lookup_name e.0 ms))) es ≡ list_all (λ m. list_all (λ x. f x m.1) (option_to_list (lookup_name m.0 es))) ms
  list_all-other_side es ms d c =
      (λ i. list_all (λ e. all_at_lookup (λ y. f e.1 y) e.0 ms c i) es)
      ∙ list_all-inside_out (λ e m. list_all (λ z. f e.1 z) (cond (bytes_eq e.0 m.0) (m.1 ∷ []) [])) es ms
      ∙ (λ i. list_all (λ m. list_all (λ e. turned e.0 m.0 e.1 m.1 i) es) ms)
      ∙ (λ i. list_all (λ m. sym (all_at_lookup (λ x. f x m.1) m.0 es d) i) ms)
