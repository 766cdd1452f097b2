-- Where a name stands among ascending names.
use Rattle.std.proofs.Common.{◌≡◌, ℕ, ◌-◌, true≢false, ◌<◌, ◌≤◌, Bool, true, false, List, [], ◌∷◌, length, get_or, Some, None, Result, Ok, Err, bytes_eq, refl, ap, sym, subst, ◌∙◌, arith}
use Rattle.std.specs.List.{position, position_or_len}
use Rattle.std.specs.List.Sorted.{IsBinarySearchResult, IsSearchInRange, IsNonDecreasingBy}
use Rattle.std.specs.Ordering.{nat_cmp, ordering_index, is_eq, ordering_reverse}
use Rattle.std.specs.Bool.{nat_lt}
use Rattle.std.specs.Result.{result_ok}
use Rattle.std.specs.Cmp.Lexicographic.{slice_cmp}
use Rattle.std.specs.declared.cmp.Ordering.{Ordering}
use Rattle.std.specs.declared.cmp.Ordering.TheVariants.{Less, Equal, Greater}
use Rattle.std.proofs.lemmas.Cmp.{nat_list_cmp_total}
use Rattle.std.proofs.lemmas.List.{get_or-map, length-map}
use Rattle.std.proofs.lemmas.List.Sums.{position_or_len_is}
use Rattle.std.proofs.lemmas.Map.Text.{is_eq-slice_cmp}
use Rattle.std.proofs.lemmas.Bool.Decides.{nat_tests}
use Rattle.olk_spec.specs.Names.{Name}
use Rattle.olk_tree.specs.declared.sorted_name.SortedName.{SortedName}
use Rattle.olk_tree.specs.Sorted.{name_of, names_of}
use Rattle.olk_tree.specs.Ascending.{Ascend, StandsAt, Parts, IsPlaceOf}

abbrev cmp : Name → Name → Ordering
cmp = slice_cmp nat_cmp

turned : (x y : Name) → cmp x y ≡ ordering_reverse (cmp y x)
turned x y = nat_list_cmp_total.antisymm x y

-- what is below an equal is below
below_equal : (x y n : Name) → cmp x y ≡ Less → cmp y n ≡ Equal → cmp x n ≡ Less
below_equal x y n p q = turned x n ∙ ap ordering_reverse (sym (nat_list_cmp_total.congr y n x q)) ∙ sym (turned x y) ∙ p

at_most_two : (o : Ordering) → ordering_index o ≤ 2
at_most_two Less = omega arith
at_most_two _ = omega arith

rises : (x y n : Name) → cmp x y ≡ Less → ordering_index (cmp x n) ≤ ordering_index (cmp y n)
rises x y n p = by (cmp y n) refl
  where
    by : (o : Ordering) → cmp y n ≡ o → ordering_index (cmp x n) ≤ ordering_index o
    by Less q = subst (λ z. ordering_index z ≤ 0) (sym (nat_list_cmp_total.trans x y n p q)) (omega arith)
    by Equal q = subst (λ z. ordering_index z ≤ 1) (sym (below_equal x y n p q)) (omega arith)
    by Greater q = at_most_two _

differs : (x n : Name) (o : Ordering) → cmp x n ≡ o → is_eq o ≡ false → bytes_eq x n ≡ false
differs x n o e f = sym (is_eq-slice_cmp x n) ∙ ap is_eq e ∙ f

-- ---- bisection

pub some_entry : (xs : List SortedName) (k : ℕ) → k < length xs → SortedName
some_entry [] k lt = absurd (omega arith)
some_entry (x ∷ xs) k lt = x

module _ (es : List SortedName) (n : Name) (asc : Ascend (names_of es)) where
  abbrev ord : SortedName → Ordering
  ord k = cmp (name_of k) n

  name_at : (i : ℕ) (d : SortedName) → i < length es → get_or (names_of es) i [] ≡ name_of (get_or es i d)
  name_at i d lt = get_or-map name_of es i d [] lt

  long : length (names_of es) ≡ length es
  long = length-map es name_of

  pair : (i j : ℕ) (d : SortedName) → i < j → j < length es → cmp (name_of (get_or es i d)) (name_of (get_or es j d)) ≡ Less
  pair i j d lt in_range =
      subst (λ x. cmp x (name_of (get_or es j d)) ≡ Less) (name_at i d (omega arith))
      (subst (λ y. cmp (get_or (names_of es) i []) y ≡ Less) (name_at j d in_range) (asc i j lt (omega (arith, long))))

  comparisons_rise : IsNonDecreasingBy (λ y. ordering_index (ord y)) es
  comparisons_rise i j d le lt = by (nat_lt i j) refl
    where
      by : (b : Bool) → nat_lt i j ≡ b → ordering_index (ord (get_or es i d)) ≤ ordering_index (ord (get_or es j d))
      by true e = rises _ _ n (pair i j d (grind (arith, nat_tests)) lt)
      by false e = let same : i ≡ j = grind (arith, nat_tests) in let f = ap (λ z. ordering_index (ord (get_or es z d))) same in omega arith

  at : (k : ℕ) (d : SortedName) (o : Ordering) → k < length es → ord (get_or es k d) ≡ o → cmp (get_or (names_of es) k []) n ≡ o
  at k d o lt e = ap (λ x. cmp x n) (name_at k d lt) ∙ e

  pub searched : (r : Result ℕ ℕ) → IsSearchInRange r (length es) → IsBinarySearchResult ord es r → IsPlaceOf (names_of es) n r
  searched (Ok i) in_range equal = let d = some_entry es i in_range in record { inside = omega (arith, long); here = at i d Equal in_range (equal d) }
  searched (Err i) in_range parted = record {
    inside = omega (arith, long);
    below = λ k l j. let lt : k < length es = omega (arith, long) in let d = some_entry es k lt in at k d Less lt ((parted comparisons_rise).0 k d (omega arith) l);
    above = λ k l j. let lt : k < length es = omega (arith, long) in let d = some_entry es k lt in at k d Greater lt ((parted comparisons_rise).1 k d l lt);
  }

-- ---- what a place says

module _ (ks : List Name) (n : Name) where
  abbrev test : Name → Bool
  test k = bytes_eq k n

  not_found : position_or_len test ks ≡ length ks → None ≡ position test ks
  not_found e = grind (arith, nat_tests)

  pub nowhere : ((k : ℕ) → k < length ks → bytes_eq (get_or ks k []) n ≡ false) → None ≡ position test ks
  nowhere unlike = not_found (position_or_len_is test ks (length ks) [] (omega arith) unlike (λ l. absurd (omega arith)))

  pub parts_none : {p : ℕ} → Parts ks n p → None ≡ position test ks
  parts_none {p} h = nowhere (λ k l. by k l (nat_lt k p) refl)
    where
      by : (k : ℕ) → k < length ks → (b : Bool) → nat_lt k p ≡ b → bytes_eq (get_or ks k []) n ≡ false
      by k l true e = differs _ n Less (h.below k (grind (arith, nat_tests)) l) refl
      by k l false e = differs _ n Greater (h.above k (grind (arith, nat_tests)) l) refl

  module _ (asc : Ascend ks) where
    pub stands_some : {p : ℕ} → StandsAt ks n p → Some p ≡ position test ks
    stands_some {p} h = some h.inside (position_or_len_is test ks p [] (let l = h.inside in omega arith)
        (λ k l. differs (get_or ks k []) n Less (below_equal (get_or ks k []) (get_or ks p []) n (asc k p l h.inside) h.here) refl)
        (λ l. sym (is_eq-slice_cmp (get_or ks p []) n) ∙ ap is_eq h.here))
      where
        some : p < length ks → position_or_len test ks ≡ p → Some p ≡ position test ks
        some lt e = grind (arith, nat_tests)

    -- between two neighbours
    pub parted_none : {p : ℕ} → 0 < p → p < length ks → cmp (get_or ks (p - 1) []) n ≡ Less → cmp (get_or ks p []) n ≡ Greater → None ≡ position test ks
    parted_none {p} some inside less greater = parts_none record { inside = omega (arith, inside); below = λ i l m. below i l (nat_lt i (p - 1)) refl; above = λ i l m. above i l m (nat_lt p i) refl }
      where
        here : Name
        here = get_or ks p []

        below : (i : ℕ) → i < p → (b : Bool) → nat_lt i (p - 1) ≡ b → cmp (get_or ks i []) n ≡ Less
        below i l true e = nat_list_cmp_total.trans (get_or ks i []) (get_or ks (p - 1) []) n (asc i (p - 1) (grind (arith, nat_tests)) (omega (arith, inside))) less
        below i l false e = let same : p - 1 ≡ i = grind (arith, nat_tests) in subst (λ k. cmp (get_or ks k []) n ≡ Less) same less

        above : (i : ℕ) → p ≤ i → i < length ks → (b : Bool) → nat_lt p i ≡ b → cmp (get_or ks i []) n ≡ Greater
        above i l m true e = turned (get_or ks i []) n ∙ ap ordering_reverse (nat_list_cmp_total.trans n here (get_or ks i []) (turned n here ∙ ap ordering_reverse greater) (asc p i (grind (arith, nat_tests)) m))
        above i l m false e = let same : p ≡ i = grind (arith, nat_tests) in subst (λ k. cmp (get_or ks k []) n ≡ Greater) same greater

    pub place_told : (r : Result ℕ ℕ) → IsPlaceOf ks n r → result_ok r ≡ position test ks
    place_told (Ok p) h = stands_some h
    place_told (Err p) h = parts_none h

    pub equal_here : (p : ℕ) → p < length ks → true ≡ bytes_eq (get_or ks p []) n → Some p ≡ position test ks
    equal_here p lt e = stands_some record { inside = lt; here = equal_by _ (is_eq-slice_cmp _ n ∙ sym e) }
      where
        equal_by : (o : Ordering) → is_eq o ≡ true → o ≡ Equal
        equal_by Equal h = refl
        equal_by _ h = absurd (true≢false (sym h))

-- ---- entries whose names ascend

module _ (es : List SortedName) where
  pub as_many_names : length (names_of es) ≡ length es
  as_many_names = length-map es name_of

  pub text_at : (p : ℕ) (d : SortedName) (t : Name) → t ≡ name_of (get_or es p d) → p < length es → t ≡ get_or (names_of es) p []
  text_at p d t text lt = text ∙ sym (get_or-map name_of es p d [] lt)

  pub seen_at : (p : ℕ) (d : SortedName) (t n : Name) → t ≡ name_of (get_or es p d) → p < length es → bytes_eq t n ≡ bytes_eq (get_or (names_of es) p []) n
  seen_at p d t n text lt = ap (λ k. bytes_eq k n) (text_at p d t text lt)

  pub equal_at : {b : Bool} (p : ℕ) (d : SortedName) (t n : Name) → t ≡ name_of (get_or es p d) → p < length es → b ≡ bytes_eq t n → b ≡ bytes_eq (get_or (names_of es) p []) n
  equal_at p d t n text lt e = e ∙ seen_at p d t n text lt
