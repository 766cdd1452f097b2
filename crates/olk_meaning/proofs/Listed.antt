-- The members of an object by their names, where no name stands twice; and which belong together.
use Rattle.std.proofs.Common.{◌≡◌, Bool, true, false, ◌||◌, List, [], ◌∷◌, ◌++◌, map, bytes_eq, IsPermutation, length, Option, Some, None, is_some, unwrap_or, String, refl, sym, ◌∙◌, ap, subst}
use Rattle.std.proofs.Common.{option_to_list, string_cmp, string_bytes, arith, true≢false, Global, nat_cmp, is_eq, Ordering, Less, Equal, Greater}
use Rattle.std.specs.List.{flat_map, AllByRecursion}
use Rattle.std.proofs.lemmas.List.Sorted.{IsPermutation-refl, IsPermutation-cons, IsPermutation-trans, IsPermutation-middle, IsPermutation-append}
use Rattle.serde_json.specs.Data.{Data, Members}
use Rattle.olk_spec.specs.Names.{Name, is_among, filter_once, put_if, lookup_name, first_if_equal}
use Rattle.olk_spec.proofs.Each.{Each}
use Rattle.olk_spec.proofs.Walks.{neither, same_name, bytes_eq-sym, bytes_eq-itself, Distinct, Distinct-from, Each-found}
use Rattle.olk_meaning.specs.Plans.{claims}
use Rattle.olk_meaning.proofs.Rows.{Rows}
use Rattle.std.proofs.lemmas.Map.Text.{is_eq-slice_cmp}
use Rattle.olk_spec.specs.{Malformed.has_repeat, Schemas.listed}
use Rattle.std.specs.{List.Sorted.IsStrictlySortedBy, Map.keys_of, Cmp.Lexicographic.slice_cmp}
use Rattle.serde_json.specs.{View.members_view, declared.value.Value.Value}

-- ---- each member belongs to a head; what the heads claim together are all members

module _ {X : Type 0} where
  -- two tests of which no item passes both
  pub those_split : (p q : X → Bool) → ((x : X) → p x ≡ true → q x ≡ false) → (xs : List X) → IsPermutation (filter_once p xs ++ filter_once q xs) (filter_once (λ x. p x || q x) xs)
  those_split p q h [] = IsPermutation-refl []
  those_split p q h (x ∷ xs) = by (p x) _ (h x) (those_split p q h xs)
    where
      by : (a b : Bool) → (a ≡ true → b ≡ false) → IsPermutation (filter_once p xs ++ filter_once q xs) (filter_once (λ x. p x || q x) xs)
          → IsPermutation (put_if a x (filter_once p xs) ++ put_if b x (filter_once q xs)) (put_if (a || b) x (filter_once (λ x. p x || q x) xs))
      by true true d g = absurd (true≢false (d refl))
      by true false d g = IsPermutation-cons x _ _ g
      by false true d g = IsPermutation-trans _ _ _ (IsPermutation-middle _ x _) (IsPermutation-cons x _ _ g)
      by false false d g = g

  pub those_none : (xs : List X) → filter_once (λ x. false) xs ≡ []
  those_none [] = refl
  those_none (x ∷ xs) = those_none xs

  those_each : (p : X → Bool) (xs : List X) → Each (λ x. p x ≡ true) xs → filter_once p xs ≡ xs
  those_each p [] h = refl
  those_each p (x ∷ xs) h = ap (λ b. put_if b x (filter_once p xs)) h.0 ∙ ap (λ l. x ∷ l) (those_each p xs h.1)

  pub filter_once-same : (p q : X → Bool) → ((x : X) → p x ≡ q x) → (xs : List X) → filter_once p xs ≡ filter_once q xs
  filter_once-same p q e [] = refl
  filter_once-same p q e (x ∷ xs) = λ i. put_if (e x i) x (filter_once-same p q e xs i)

abbrev pub names_of : Rows → List Name
names_of es = map (λ m. m.0) es

module _ (heads : Name → Name) where
  grouped : (es hs : Rows) → has_repeat (names_of hs) ≡ false → IsPermutation (flat_map (claims heads es) hs) (filter_once (λ x. is_among (heads x.0) (names_of hs)) es)
  grouped es [] d = subst (λ l. IsPermutation [] l) (sym (those_none es)) (IsPermutation-refl [])
  grouped es (m ∷ hs) d =
      let h = neither (is_among m.0 (names_of hs)) (has_repeat (names_of hs)) d in
      subst (λ l. IsPermutation (l ++ flat_map (claims heads es) hs) (filter_once (λ x. bytes_eq (heads x.0) m.0 || is_among (heads x.0) (names_of hs)) es))
      (filter_once-same (λ (x : Name × Data). bytes_eq (heads x.0) m.0) (λ x. bytes_eq m.0 (heads x.0)) (λ x. bytes_eq-sym (heads x.0) m.0) es)
      (IsPermutation-trans _ _ _ (IsPermutation-append _ _ _ _ (IsPermutation-refl _) (grouped es hs h.1))
      (those_split (λ x. bytes_eq (heads x.0) m.0) (λ x. is_among (heads x.0) (names_of hs))
      (λ x e. ap (λ k. is_among k (names_of hs)) (same_name (heads x.0) m.0 e) ∙ h.0) es))

  -- where no name stands twice, and the head of each member is there
  pub claims_are_all : (es : Rows) → has_repeat (names_of es) ≡ false → Each (λ x. is_among (heads x.0) (names_of es) ≡ true) es → IsPermutation (flat_map (claims heads es) es) es
  claims_are_all es d h = subst (IsPermutation _) (those_each _ es h) (grouped es es d)

-- ---- the members of an object by their names, where no name stands twice

abbrev pub members_named : Name → Rows → Rows
members_named k es = filter_once (λ m. bytes_eq k m.0) es

none_named : (k : Name) (es : Rows) → Each (λ m. bytes_eq k m.0 ≡ false) es → members_named k es ≡ []
none_named k [] h = refl
none_named k (m ∷ es) h = ap (λ b. put_if b m (members_named k es)) h.0 ∙ none_named k es h.1

-- the member that a look-up finds is the only one of its name
pub named_once : (k : Name) (d : Data) (es : Rows) → Distinct es → lookup_name k es ≡ Some d → members_named k es ≡ (k, d) ∷ []
named_once k d [] h e = absurd (true≢false (sym (ap is_some e)))
named_once k d (m ∷ es) h e = by _ (is_eq-slice_cmp k m.0) e (named_once k d es h.1)
  where
    by : (o : Ordering) → is_eq o ≡ bytes_eq k m.0 → first_if_equal o m.1 (lookup_name k es) ≡ Some d → (lookup_name k es ≡ Some d → members_named k es ≡ (k, d) ∷ [])
        → members_named k (m ∷ es) ≡ (k, d) ∷ []
    by Less q f g = ap (λ b. put_if b m (members_named k es)) (sym q) ∙ g f
    by Greater q f g = ap (λ b. put_if b m (members_named k es)) (sym q) ∙ g f
    by Equal q f g =
        let same = same_name k m.0 (sym q) in
        ap (λ b. put_if b m (members_named k es)) (sym q)
        ∙ ap (λ l. m ∷ l) (none_named k es (subst (λ n. Each (λ x. bytes_eq n x.0 ≡ false) es) (sym same) h.0))
        ∙ (λ i. (sym same i, unwrap_or (f i) d) ∷ [])

-- the members of a name, before others of whose names a test holds
pub named_first : (es : Rows) (k : Name) (test : Name → Bool) {xs : Rows} → test k ≡ false → IsPermutation xs (filter_once (λ x. test x.0) es)
    → IsPermutation (members_named k es ++ xs) (filter_once (λ x. bytes_eq k x.0 || test x.0) es)
named_first es k test {xs} e h = IsPermutation-trans _ _ _ (IsPermutation-append _ _ _ _ (IsPermutation-refl _) h)
    (those_split (λ x. bytes_eq k x.0) _ (λ x q. ap test (sym (same_name k x.0 q)) ∙ e) es)

module _ (ms : Members) (distinct : has_repeat (names_of (listed ms)) ≡ false) where
  -- the members of a name are what a look-up finds
  pub members_found : (k : Name) (o : Option Data) → lookup_name k (listed ms) ≡ o → members_named k (listed ms) ≡ map (λ d. (k, d)) (option_to_list o)
  members_found k (Some d) e = named_once k d _ (Distinct-from _ distinct) e
  members_found k None e = none_found _ e
    where
      none_found : (es : Rows) → lookup_name k es ≡ None → members_named k es ≡ []
      none_found [] e = refl
      none_found (m ∷ es) e = by _ (is_eq-slice_cmp k m.0) e (none_found es)
        where
          by : (o : Ordering) → is_eq o ≡ bytes_eq k m.0 → first_if_equal o m.1 (lookup_name k es) ≡ None → (lookup_name k es ≡ None → members_named k es ≡ []) → members_named k (m ∷ es) ≡ []
          by Less q f g = ap (λ b. put_if b m (members_named k es)) (sym q) ∙ g f
          by Greater q f g = ap (λ b. put_if b m (members_named k es)) (sym q) ∙ g f
          by Equal q f g = absurd (true≢false (ap is_some f))

-- a member that is found is there
pub lookup_among : (k : Name) (d : Data) (es : Rows) → lookup_name k es ≡ Some d → is_among k (names_of es) ≡ true
lookup_among k d [] e = absurd (true≢false (sym (ap is_some e)))
lookup_among k d (m ∷ es) e = by _ (is_eq-slice_cmp k m.0) e (lookup_among k d es)
  where
    by : (o : Ordering) → is_eq o ≡ bytes_eq k m.0 → first_if_equal o m.1 (lookup_name k es) ≡ Some d → (lookup_name k es ≡ Some d → is_among k (names_of es) ≡ true)
        → is_among k (names_of (m ∷ es)) ≡ true
    by Less q f g = ap (λ b. b || is_among k (names_of es)) (sym q) ∙ g f
    by Greater q f g = ap (λ b. b || is_among k (names_of es)) (sym q) ∙ g f
    by Equal q f g = ap (λ b. b || is_among k (names_of es)) (sym q)

-- ---- the members of a map

pub listed_length : (es : List (String Global × Value)) → length (listed (members_view es)) ≡ length es
listed_length [] = refl
listed_length (e ∷ es) = let h = listed_length es in omega (arith, h)

later_differ : (k : String Global) (es : List (String Global × Value)) → AllByRecursion (λ y. string_cmp k y ≡ Less) (keys_of es)
    → is_among (string_bytes k) (map (λ m. m.0) (listed (members_view es))) ≡ false
later_differ k [] h = refl
later_differ k (e ∷ es) h = λ i. (sym (is_eq-slice_cmp (string_bytes k) (string_bytes e.0)) ∙ ap is_eq h.0) i || later_differ k es h.1 i

-- no name stands twice
pub sorted_distinct : (es : List (String Global × Value)) → IsStrictlySortedBy string_cmp (keys_of es) → has_repeat (map (λ m. m.0) (listed (members_view es))) ≡ false
unfolding IsStrictlySortedBy
sorted_distinct [] h = refl
sorted_distinct (e ∷ es) h = λ i. later_differ e.0 es h.0 i || sorted_distinct es h.1 i

one_of : {X : Type 0} (P : X → Type 0) (xs : List X) (x : X) (ys : List X) → Each P (xs ++ x ∷ ys) → P x
one_of P [] x ys h = h.0
one_of P (y ∷ xs) x ys h = one_of P xs x ys h.1

-- a look-up finds each member, where no name stands twice
pub found_each : (ms : Members) → has_repeat (map (λ m. m.0) (listed ms)) ≡ false → (done : Rows) (m : Name × Data) (rest : Rows)
    → done ++ m ∷ rest ≡ listed ms → lookup_name m.0 (listed ms) ≡ Some m.1
found_each ms h done m rest e =
    one_of (λ x. lookup_name x.0 (listed ms) ≡ Some x.1) done m rest (subst (λ l. Each (λ x. lookup_name x.0 (listed ms) ≡ Some x.1) l) (sym e) (Each-found _ (Distinct-from _ h)))

-- a look-up finds something at each member's name
pub present_each : (es done : Rows) (m : Name × Data) (rest : Rows) → done ++ m ∷ rest ≡ es → is_some (lookup_name m.0 es) ≡ true
present_each es done m rest e = ap (λ l. is_some (lookup_name m.0 l)) (sym e) ∙ along done
  where
    found : (o : Ordering) (d : Data) (x : Option Data) → is_eq o ≡ true → is_some (first_if_equal o d x) ≡ true
    found Equal d x q = refl
    found _ d x q = absurd (true≢false (sym q))

    past : (o : Ordering) (d : Data) (x : Option Data) → is_some x ≡ true → is_some (first_if_equal o d x) ≡ true
    past Equal d x q = refl
    past _ d x q = q

    along : (done : Rows) → is_some (lookup_name m.0 (done ++ m ∷ rest)) ≡ true
    along [] = found (slice_cmp nat_cmp m.0 m.0) m.1 _ (is_eq-slice_cmp m.0 m.0 ∙ bytes_eq-itself m.0)
    along (x ∷ done) = past _ x.1 _ (along done)
