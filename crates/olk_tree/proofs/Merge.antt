-- Two ascending lists of names are walked in step: it is one whether the names of the first are looked up in the second, or those of the second in the first.
use Rattle.std.proofs.Common.{◌≡◌, ℕ, suc, ◌<◌, List, [], ◌∷◌, ◌++◌, length, get_or, option_to_list, None, String, Global, Ordering, Less, Equal, Greater, string_bytes, string_cmp, refl, sym, ap, subst, ◌∙◌, arith}
use Rattle.std.specs.Ordering.{nat_cmp, ordering_reverse}
use Rattle.std.specs.Cmp.Lexicographic.{slice_cmp}
use Rattle.std.specs.Bool.{⊤}
use Rattle.std.specs.List.{AllByRecursion, flat_map, zip}
use Rattle.std.specs.List.Sorted.{IsStrictlySortedBy}
use Rattle.std.specs.Map.{keys_of}
use Rattle.std.specs.FinMap.{slice_cmp-IsAntisymmetric, nat_cmp-IsAntisymmetric}
use Rattle.std.proofs.lemmas.Cmp.{nat_list_cmp_total}
use Rattle.serde_json.specs.View.{members_view}
use Rattle.serde_json.specs.declared.value.Value.{Value}
use Rattle.olk_spec.specs.Names.{Name, lookup_name, first_if_equal}
use Rattle.olk_spec.specs.Schemas.{listed}
use Rattle.olk_tree.specs.Ascending.{Ascend}

abbrev order : Name → Name → Ordering
order = slice_cmp nat_cmp

-- each of these names comes after n
abbrev pub After : {X : Type 0} → Name → List (Name × X) → Type 0
After n [] = ⊤
After n (m ∷ ms) = (slice_cmp nat_cmp n m.0 ≡ Less) × After n ms

-- each name comes after those before it
abbrev pub Rising : {X : Type 0} → List (Name × X) → Type 0
Rising [] = ⊤
Rising (m ∷ ms) = After m.0 ms × Rising ms

greater_from : (n k : Name) → order n k ≡ Less → order k n ≡ Greater
greater_from n k e = nat_list_cmp_total.antisymm k n ∙ ap ordering_reverse e

module _ {X : Type 0} where
  pub after_after : (n k : Name) → order n k ≡ Less → (ms : List (Name × X)) → After k ms → After n ms
  after_after n k e [] h = tt
  after_after n k e (m ∷ ms) h = (nat_list_cmp_total.trans n k m.0 e h.0, after_after n k e ms h.1)

  -- what comes after a name is not at it
  pub none_after : (n : Name) (ms : List (Name × X)) → After n ms → lookup_name n ms ≡ None
  none_after n [] h = refl
  none_after n (m ∷ ms) h = ap (λ o. first_if_equal o m.1 (lookup_name n ms)) h.0 ∙ none_after n ms h.1

  pub skips : (n : Name) (m : Name × X) (ms : List (Name × X)) → order m.0 n ≡ Less → lookup_name n (m ∷ ms) ≡ lookup_name n ms
  skips n m ms e = ap (λ o. first_if_equal o m.1 (lookup_name n ms)) (greater_from m.0 n e)

module _ {A C : Type 0} where
  -- walks over names after n, looked up in a list with n at its head, or without it
  walk_skips : {B : Type 0} (g : Name → A → B → List C) (m : Name × A) (ms : List (Name × A)) (es : List (Name × B)) → After m.0 es
      → flat_map (λ e. flat_map (λ a. g e.0 a e.1) (option_to_list (lookup_name e.0 (m ∷ ms)))) es ≡ flat_map (λ e. flat_map (λ a. g e.0 a e.1) (option_to_list (lookup_name e.0 ms))) es
  walk_skips g m ms [] h = refl
  walk_skips g m ms (e ∷ es) h = λ i. flat_map (λ a. g e.0 a e.1) (option_to_list (skips e.0 m ms h.0 i)) ++ walk_skips g m ms es h.1 i

abbrev nothing_at : {B C : Type 0} → Name × B → List C
nothing_at e = []

walk_nothing : {B C : Type 0} (es : List (Name × B)) → flat_map (nothing_at {B = B} {C = C}) es ≡ []
walk_nothing [] = refl
walk_nothing (e ∷ es) = walk_nothing es

module _ {A B C : Type 0} (g : Name → A → B → List C) where
  -- the names of the first list, looked up in the second, and the other way round
  abbrev pub first_walk : List (Name × A) → List (Name × B) → List C
  first_walk es ms = flat_map (λ e. flat_map (λ b. g e.0 e.1 b) (option_to_list (lookup_name e.0 ms))) es

  abbrev pub second_walk : List (Name × A) → List (Name × B) → List C
  second_walk es ms = flat_map (λ m. flat_map (λ a. g m.0 a m.1) (option_to_list (lookup_name m.0 es))) ms

  module _ (e : Name × A) (es : List (Name × A)) (r : Rising (e ∷ es)) (others : (ms : List (Name × B)) → Rising ms → first_walk es ms ≡ second_walk es ms) where
    one_more : (m : Name × B) (ms : List (Name × B)) → Rising (m ∷ ms) → first_walk (e ∷ es) ms ≡ second_walk (e ∷ es) ms → (o : Ordering) → order e.0 m.0 ≡ o
        → first_walk (e ∷ es) (m ∷ ms) ≡ second_walk (e ∷ es) (m ∷ ms)
    one_more m ms s h Less q =
        ap (λ o. flat_map (λ b. g e.0 e.1 b) (option_to_list o) ++ first_walk es (m ∷ ms)) (none_after e.0 (m ∷ ms) (q, after_after e.0 m.0 q ms s.0))
        ∙ others (m ∷ ms) s
        ∙ sym (walk_skips g e es (m ∷ ms) (q, after_after e.0 m.0 q ms s.0))
    one_more m ms s h Equal q =
        let same : e.0 ≡ m.0 = slice_cmp-IsAntisymmetric nat_cmp-IsAntisymmetric e.0 m.0 q in
        (λ i. flat_map (λ b. g e.0 e.1 b) (option_to_list (first_if_equal (q i) m.1 (lookup_name e.0 ms))) ++ walk_skips (λ n b a. g n a b) m ms es (subst (λ n. After n es) same r.0) i)
        ∙ (λ i. (g (same i) e.1 m.1 ++ []) ++ others ms s.1 i)
        ∙ sym (λ i. flat_map (λ a. g m.0 a m.1) (option_to_list (first_if_equal ((nat_list_cmp_total.antisymm m.0 e.0 ∙ ap ordering_reverse q) i) e.1 (lookup_name m.0 es)))
        ++ walk_skips g e es ms (subst (λ n. After n ms) (sym same) s.0) i)
    one_more m ms s h Greater q =
        let back : order m.0 e.0 ≡ Less = nat_list_cmp_total.antisymm m.0 e.0 ∙ ap ordering_reverse q in
        walk_skips (λ n b a. g n a b) m ms (e ∷ es) (back, after_after m.0 e.0 back es r.0)
        ∙ h
        ∙ sym (ap (λ o. flat_map (λ a. g m.0 a m.1) (option_to_list o) ++ second_walk (e ∷ es) ms) (none_after m.0 (e ∷ es) (back, after_after m.0 e.0 back es r.0)))

    with_first : (ms : List (Name × B)) → Rising ms → first_walk (e ∷ es) ms ≡ second_walk (e ∷ es) ms
    with_first [] s = walk_nothing es
    with_first (m ∷ ms) s = one_more m ms s (with_first ms s.1) (order e.0 m.0) refl

  pub in_step : (es : List (Name × A)) (ms : List (Name × B)) → Rising es → Rising ms → first_walk es ms ≡ second_walk es ms
  in_step [] ms r s = sym (walk_nothing ms)
  in_step (e ∷ es) ms r s = with_first e es r (λ ns t. in_step es ns r.1 t) ms s

-- ---- the names of a map, and those of an object

module _ {X : Type 0} where
  after_each : (n : Name) (ks : List Name) (xs : List X) → ((j : ℕ) → j < length ks → slice_cmp nat_cmp n (get_or ks j []) ≡ Less) → After n (zip ks xs)
  after_each n (k ∷ ks) (x ∷ xs) h = (h 0 (omega arith), after_each n ks xs (λ j l. h (suc j) (omega arith)))
  after_each n _ _ h = tt

  pub ascending_rising : (ks : List Name) (xs : List X) → Ascend ks → Rising (zip ks xs)
  ascending_rising (k ∷ ks) (x ∷ xs) h = (after_each k ks xs (λ j l. h 0 (suc j) (omega arith) (omega arith)), ascending_rising ks xs (λ i j l g. h (suc i) (suc j) (omega arith) (omega arith)))
  ascending_rising _ _ h = tt

later_after : (k : String Global) (es : List (String Global × Value)) → AllByRecursion (λ y. string_cmp k y ≡ Less) (keys_of es) → After (string_bytes k) (listed (members_view es))
later_after k [] h = tt
later_after k (e ∷ es) h = (h.0, later_after k es h.1)

pub sorted_rising : (es : List (String Global × Value)) → IsStrictlySortedBy string_cmp (keys_of es) → Rising (listed (members_view es))
unfolding IsStrictlySortedBy
sorted_rising [] h = tt
sorted_rising (e ∷ es) h = (later_after e.0 es h.0, sorted_rising es h.1)
