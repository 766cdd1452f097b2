-- What stands beside a name.
use Rattle.std.proofs.Common.{◌≡◌, ℕ, zero, suc, ◌+◌, ◌<◌, ◌≤◌, length, get_or, Bor, option_copied, Bool, true, false, List, [], ◌∷◌, Option, Some, None, option_map, bytes_eq, refl, ap, ◌∙◌, sym, arith}
use Rattle.std.specs.Option.{option_and_then, IfSome, MatchOption}
use Rattle.std.specs.List.{position, slice_get, enumerate_from, HoldsAt, zip}
use Rattle.std.proofs.lemmas.Option.{slice_get_past, slice_get_read}
use Rattle.std.specs.Ordering.{nat_cmp, is_eq, ordering_reverse}
use Rattle.std.specs.Cmp.Lexicographic.{slice_cmp}
use Rattle.std.specs.declared.cmp.Ordering.{Ordering}
use Rattle.std.specs.declared.cmp.Ordering.TheVariants.{Less, Equal, Greater}
use Rattle.std.proofs.lemmas.Cmp.{nat_list_cmp_total}
use Rattle.std.proofs.lemmas.Map.Text.{is_eq-slice_cmp}
use Rattle.std.proofs.lemmas.Grind.{common_steps}
use Rattle.std.proofs.lemmas.List.{get_or_default}
use Rattle.std.proofs.lemmas.List.Quantifiers.{position-Some}
use Rattle.std.proofs.lemmas.Slice.Eq.{bytes_eq-Decides}
use Rattle.olk_spec.specs.Names.{Name, lookup_name, first_if_equal}
use Rattle.olk_tree.specs.Additional.{placed}
use Rattle.olk_tree.specs.Maps.{keys_in, nodes_in, placed_entries}

is_eq-turned : (o : Ordering) → is_eq (ordering_reverse o) ≡ is_eq o
is_eq-turned Less = refl
is_eq-turned _ = refl

pub same_name : (k n : Name) → bytes_eq k n ≡ is_eq (slice_cmp nat_cmp n k)
same_name k n = sym (is_eq-slice_cmp k n) ∙ ap is_eq (nat_list_cmp_total.antisymm k n) ∙ is_eq-turned _

module _ {A : Type 0} where
  position-here : (p : A → Bool) (x : A) (xs : List A) → p x ≡ true → position p (x ∷ xs) ≡ Some 0
  position-here p x xs e = grind (arith, common_steps)

  position-later : (p : A → Bool) (x : A) (xs : List A) → p x ≡ false → position p (x ∷ xs) ≡ option_map suc (position p xs)
  position-later p x xs e = grind (arith, common_steps)

module _ {X : Type 0} where
  nothing : (o : Option ℕ) → option_and_then (slice_get {X = X} []) o ≡ None
  nothing None = refl
  nothing (Some i) = refl

  later : (x : X) (xs : List X) (o : Option ℕ) → option_and_then (slice_get (x ∷ xs)) (option_map suc o) ≡ option_and_then (slice_get xs) o
  later x xs None = refl
  later x xs (Some i) = refl

  -- what is read at an index
  pub read_at : (xs : List X) (i : ℕ) (o : Option (Bor X)) → IfSome o (λ x. x.now ≡ get_or xs i x.now) → MatchOption o (length xs ≤ i)
      (λ x. (i < length xs) × HoldsAt (λ y. x.now ≡ y) xs i) → option_copied o ≡ slice_get xs i
  read_at xs i None h m = sym (slice_get_past xs i m)
  read_at xs i (Some x) h m = sym (slice_get_read xs _ i x.now refl m.0 h)

  pub read_in : (xs slice : List X) (i : ℕ) (o : Option (Bor X)) → slice ≡ xs → IfSome o (λ x. x.now ≡ get_or slice i x.now)
      → MatchOption o (length slice ≤ i) (λ x. (i < length slice) × HoldsAt (λ y. x.now ≡ y) slice i) → option_copied o ≡ slice_get xs i
  read_in xs slice i o same h m = read_at slice i o h m ∙ ap (λ l. slice_get l i) same

  -- the place of a name leads to what stands beside it
  pub zip_place : (ks : List Name) (xs : List X) (n : Name) → option_and_then (slice_get xs) (position (λ k. bytes_eq k n) ks) ≡ lookup_name n (zip ks xs)
  zip_place [] xs n = refl
  zip_place (k ∷ ks) [] n = nothing _
  zip_place (k ∷ ks) (x ∷ xs) n = by _ (same_name k n) (zip_place ks xs n)
    where
      by : (o : Ordering) → bytes_eq k n ≡ is_eq o → option_and_then (slice_get xs) (position (λ k. bytes_eq k n) ks) ≡ lookup_name n (zip ks xs)
          → option_and_then (slice_get (x ∷ xs)) (position (λ k. bytes_eq k n) (k ∷ ks)) ≡ first_if_equal o x (lookup_name n (zip ks xs))
      by Less e h = ap (option_and_then (slice_get (x ∷ xs))) (position-later _ k ks e) ∙ later x xs _ ∙ h
      by Equal e h = ap (option_and_then (slice_get (x ∷ xs))) (position-here (λ k. bytes_eq k n) k ks e)
      by Greater e h = ap (option_and_then (slice_get (x ∷ xs))) (position-later _ k ks e) ∙ later x xs _ ∙ h

  -- where the name has no place
  pub zip_none : (ks : List Name) (xs : List X) (n : Name) → None ≡ position (λ k. bytes_eq k n) ks → None ≡ lookup_name n (zip ks xs)
  zip_none ks xs n e = ap (option_and_then _) e ∙ zip_place ks xs n

  numbered_get : (k : ℕ) (xs : List X) (i j : ℕ) → j ≡ k + i → slice_get (enumerate_from k xs) i ≡ option_map (λ x. (j, x)) (slice_get xs i)
  numbered_get k [] i j e = refl
  numbered_get k (x ∷ xs) zero j e = ap (λ p. Some (p, x)) (let f : k ≡ j = omega arith in f)
  numbered_get k (x ∷ xs) (suc i) j e = numbered_get (k + 1) xs i j (omega arith)

-- what stands beside names has the places of the names
placed_zip : {N : Type 0} (k : ℕ) (ks : List Name) (xs : List N) → zip (keys_in (zip ks xs)) (enumerate_from k (nodes_in (zip ks xs))) ≡ zip ks (enumerate_from k xs)
placed_zip k (n ∷ ks) (x ∷ xs) = ap (λ l. (n, (k, x)) ∷ l) (placed_zip (k + 1) ks xs)
placed_zip k _ _ = refl

-- the name that stands at its place
pub key_read : (ks : List Name) (n : Name) (p : ℕ) → Some p ≡ position (λ k. bytes_eq k n) ks → get_or ks p [] ≡ n
key_read ks n p e = (bytes_eq-Decides (get_or ks p []) n).0 (position-Some (λ k. bytes_eq k n) ks p [] (sym e)).1

-- what stands at the place of a name, with the place
module _ {N : Type 0} (ks : List Name) (xs : List N) (n : Name) where
  pub found_placed : (p : ℕ) (o : Option (ℕ × N)) → Some p ≡ position (λ k. bytes_eq k n) ks → o ≡ slice_get (placed xs) p → o ≡ lookup_name n (placed_entries (zip ks xs))
  found_placed p o e is = is ∙ ap (option_and_then (slice_get (placed xs))) e ∙ zip_place ks (placed xs) n ∙ ap (lookup_name n) (sym (placed_zip 0 ks xs))

  module _ (p : ℕ) (d : N) (e : Some p ≡ position (λ k. bytes_eq k n) ks) (within : length ks ≤ length xs) where
    abbrev x : N
    x = get_or xs p d

    pub place_inside : p < length xs
    place_inside = omega (arith, (position-Some (λ k. bytes_eq k n) ks p [] (sym e)).0, within)

    here : Some x ≡ slice_get xs p
    here = sym (slice_get_read xs (length xs) p x refl place_inside (get_or_default xs p d x place_inside))

    pub node_here : Some x ≡ lookup_name n (zip ks xs)
    node_here = here ∙ ap (option_and_then (slice_get xs)) e ∙ zip_place ks xs n

    pub node_here_placed : Some (p, x) ≡ lookup_name n (placed_entries (zip ks xs))
    node_here_placed = found_placed p (Some (p, x)) e (ap (option_map {U = ℕ × N} (λ y. (p, y))) here ∙ sym (numbered_get 0 xs p p (omega arith)))

  pub none_placed : None ≡ position (λ k. bytes_eq k n) ks → None ≡ lookup_name n (placed_entries (zip ks xs))
  none_placed e = zip_none ks (placed xs) n e ∙ ap (lookup_name n) (sym (placed_zip 0 ks xs))

module _ {N : Type 0} where
  pub keys_of_zip : (ks : List Name) (xs : List N) → length ks ≡ length xs → keys_in (zip ks xs) ≡ ks
  keys_of_zip [] xs e = refl
  keys_of_zip (k ∷ ks) [] e = absurd (omega (arith, e))
  keys_of_zip (k ∷ ks) (x ∷ xs) e = ap (λ l. k ∷ l) (keys_of_zip ks xs (omega (arith, e)))

  pub nodes_of_zip : (ks : List Name) (xs : List N) → length ks ≡ length xs → nodes_in (zip ks xs) ≡ xs
  nodes_of_zip [] [] e = refl
  nodes_of_zip (k ∷ ks) (x ∷ xs) e = ap (λ l. x ∷ l) (nodes_of_zip ks xs (omega (arith, e)))
  nodes_of_zip _ _ e = absurd (omega (arith, e))
