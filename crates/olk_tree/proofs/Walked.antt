-- What is left of a walk over the members whose names are declared.
use Rattle.std.proofs.Common.{◌≡◌, ℕ, zero, suc, ◌<◌, ◌≤◌, min, take, length, get_or, arith, Bool, true, false, cond, List, [], ◌∷◌, ◌++◌, Option, Some, None, option_to_list, String, Global, string_bytes, string_cmp, refl, sym, ap, subst, ◌∙◌}
use Rattle.std.specs.List.{flat_map, zip}
use Rattle.std.specs.Ordering.{nat_cmp}
use Rattle.std.specs.Cmp.Lexicographic.{slice_cmp}
use Rattle.std.specs.declared.cmp.Ordering.TheVariants.{Less}
use Rattle.serde_json.specs.Data.{Data}
use Rattle.serde_json.specs.View.{view, members_view}
use Rattle.serde_json.specs.declared.value.Value.{Value}
use Rattle.olk_spec.specs.Names.{Name, lookup_name}
use Rattle.olk_spec.specs.Schemas.{listed}
use Rattle.std.specs.List.Sorted.{IsStrictlySortedBy}
use Rattle.std.specs.Map.{keys_of}
use Rattle.std.proofs.lemmas.List.{take-map, length-take-le, get_or-take}
use Rattle.olk_tree.specs.Ascending.{Ascend, AscendWithin}
use Rattle.olk_tree.specs.Sorted.{name_of, names_of}
use Rattle.olk_tree.specs.declared.sorted_name.SortedName.{SortedName}
use Rattle.olk_tree.specs.Maps.{keys_in, nodes_in}
use Rattle.olk_tree.proofs.Merge.{Rising, in_step, ascending_rising, sorted_rising}
use Rattle.olk_tree.specs.Visited.{Declared, declared_as, members_declared, names_met}
use Rattle.olk_meaning.proofs.Rows.{Rows}

module _ {N : Type 0} where
  module _ (es : List (Name × N)) where
    module _ {left rest : List (String Global × Value)} {k : String Global} {v : Value} (n : Name) (next : left ≡ (k, v) ∷ rest) (name : n ≡ string_bytes k) where
      step : (o : Option N) → o ≡ lookup_name n es → members_declared es (listed (members_view left)) ≡ flat_map (λ x. declared_as n x (view v)) (option_to_list o)
          ++ members_declared es (listed (members_view rest))
      step o e =
          ap (λ l. members_declared es (listed (members_view l))) next
          ∙ (λ i. flat_map (λ x. declared_as (name_back i) x (view v)) (option_to_list (lookup_name (name_back i) es)) ++ members_declared es (listed (members_view rest)))
          ∙ ap (λ p. flat_map (λ x. declared_as n x (view v)) (option_to_list p) ++ members_declared es (listed (members_view rest))) (sym e)
        where
          name_back : string_bytes k ≡ n
          name_back = sym name

      -- a member whose name is declared, and one whose name isn't
      pub member_met : (x : N) → Some x ≡ lookup_name n es → members_declared es (listed (members_view left)) ≡ record {
        name = n;
        node = x;
        value = view v;
      } ∷ members_declared es (listed (members_view rest))
      member_met x e = step _ e

      pub member_passed : None ≡ lookup_name n es → members_declared es (listed (members_view left)) ≡ members_declared es (listed (members_view rest))
      member_passed e = step None e

    pub no_member_left : {left : List (String Global × Value)} → left ≡ [] → members_declared es (listed (members_view left)) ≡ []
    no_member_left none = ap (λ l. members_declared es (listed (members_view l))) none

  module _ (ms : Rows) {es rest : List (Name × N)} (n : Name) (x : N) (next : es ≡ (n, x) ∷ rest) where
    -- a declared name at which there is a member, and one at which there is none
    pub name_met : (v : Data) (o : Option Data) → Some v ≡ o → o ≡ lookup_name n ms → names_met es ms ≡ record { name = n; node = x; value = v } ∷ names_met rest ms
    name_met v o is at = ap (λ l. names_met l ms) next ∙ ap (λ p. flat_map (λ w. declared_as n x w) (option_to_list p) ++ names_met rest ms) (sym (is ∙ at))

    pub name_passed : None ≡ lookup_name n ms → names_met es ms ≡ names_met rest ms
    name_passed at = ap (λ l. names_met l ms) next ∙ ap (λ p. flat_map (λ w. declared_as n x w) (option_to_list p) ++ names_met rest ms) (sym at)

  -- whichever side is walked
  pub either_side : (b : Bool) (x y z : List (Declared N)) → x ≡ z → y ≡ z → cond b x y ≡ z
  either_side true x y z e f = e
  either_side false x y z e f = f

  -- a list of pairs is its keys and what stands beside them
  pub zip_parts : (es : List (Name × N)) → zip (keys_in es) (nodes_in es) ≡ es
  zip_parts [] = refl
  zip_parts (e ∷ es) = ap (λ l. e ∷ l) (zip_parts es)

  pub keys_rising : (es : List (Name × N)) → Ascend (keys_in es) → Rising es
  keys_rising es ascend = subst Rising (zip_parts es) (ascending_rising _ _ ascend)

  key_kept : (ks : List Name) (xs : List N) (i : ℕ) → i < length (keys_in (zip ks xs)) → get_or (keys_in (zip ks xs)) i [] ≡ get_or ks i []
  key_kept (k ∷ ks) [] i lt = absurd (omega arith)
  key_kept (k ∷ ks) (x ∷ xs) (suc i) lt = key_kept ks xs i (omega arith)
  key_kept _ _ _ lt = refl

  no_longer : (ks : List Name) (xs : List N) (i : ℕ) → i < length (keys_in (zip ks xs)) → i < length ks
  no_longer (k ∷ ks) (x ∷ xs) zero lt = omega arith
  no_longer (k ∷ ks) (x ∷ xs) (suc i) lt = let l = no_longer ks xs i (omega arith) in omega arith
  no_longer _ _ i lt = absurd (omega arith)

  no_names_taken : (k : ℕ) (xs : List N) → zip {K = Name} (take k []) xs ≡ []
  no_names_taken zero xs = refl
  no_names_taken (suc k) xs = refl

  no_nodes_taken : (ks : List Name) → zip {X = N} ks [] ≡ []
  no_nodes_taken [] = refl
  no_nodes_taken (k ∷ ks) = refl

  -- what has no name beside it, or no node, is left out
  pub zip_within : (ks : List Name) (xs : List N) → zip (take (min (length ks) (length xs)) ks) xs ≡ zip ks xs
  zip_within (k ∷ ks) (x ∷ xs) =
      let more : min (suc (length ks)) (suc (length xs)) ≡ suc (min (length ks) (length xs)) = omega arith in
      ap (λ n. zip (take n (k ∷ ks)) (x ∷ xs)) more ∙ ap (λ es. (k, x) ∷ es) (zip_within ks xs)
  zip_within [] xs = no_names_taken (min 0 (length xs)) xs
  zip_within (k ∷ ks) [] = no_nodes_taken (take (min (length (k ∷ ks)) 0) (k ∷ ks))

  pub no_more_than_names : (ks : List Name) (xs : List N) → length (zip ks xs) ≤ length ks
  no_more_than_names (k ∷ ks) (x ∷ xs) = let few = no_more_than_names ks xs in omega arith
  no_more_than_names _ _ = omega arith

  -- as many names as have something beside them
  module _ (ns : List SortedName) (xs : List N) (k : ℕ) (count : k ≡ min (length (names_of ns)) (length xs)) where
    cut_names : names_of (take k ns) ≡ take k (names_of ns)
    cut_names = sym (take-map name_of k ns)

    cut_length : length (take k (names_of ns)) ≡ k
    cut_length = length-take-le k (names_of ns) (omega (arith, count))

    pub cut_within : Ascend (names_of ns) → AscendWithin (names_of (take k ns)) xs
    cut_within asc = subst (λ ks. AscendWithin ks xs) (sym cut_names) record {
      ascend = λ i j lt l.
          let few : j < k = omega (arith, cut_length, l) in
          subst (λ n. slice_cmp nat_cmp n (get_or (take k (names_of ns)) j []) ≡ Less) (sym (get_or-take k (names_of ns) i [] (omega arith)))
          (subst (λ n. slice_cmp nat_cmp (get_or (names_of ns) i []) n ≡ Less) (sym (get_or-take k (names_of ns) j [] few)) (asc i j lt (omega (arith, count))));
      within = omega (arith, cut_length, count);
    }

    pub cut_zip : zip (names_of (take k ns)) xs ≡ zip (names_of ns) xs
    cut_zip = ap (λ ks. zip ks xs) (cut_names ∙ ap (λ m. take m (names_of ns)) count) ∙ zip_within (names_of ns) xs

  -- names that ascend do so where things stand beside them
  pub keys_ascend : (ks : List Name) (xs : List N) → Ascend ks → Ascend (keys_in (zip ks xs))
  keys_ascend ks xs asc i j lt l =
      subst (λ k. slice_cmp nat_cmp k (get_or (keys_in (zip ks xs)) j []) ≡ Less) (sym (key_kept ks xs i (omega arith)))
      (subst (λ k. slice_cmp nat_cmp (get_or ks i []) k ≡ Less) (sym (key_kept ks xs j l)) (asc i j lt (no_longer ks xs j l)))

  pub walks_agree : (declared : List (Name × N)) (es : List (String Global × Value)) → Ascend (keys_in declared) → IsStrictlySortedBy string_cmp (keys_of es)
      → names_met declared (listed (members_view es)) ≡ members_declared declared (listed (members_view es))
  walks_agree declared es ascend sorted = in_step declared_as declared _ (keys_rising declared ascend) (sorted_rising es sorted)
