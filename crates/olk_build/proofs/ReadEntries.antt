-- The entries of an object, gone through in order, and lists of names.
use Rattle.std.proofs.Common.{◌≡◌, List, [], ◌∷◌, ◌++◌, map, String, string_bytes, ℕ, ◌+◌, ◌<◌, ◌≤◌, false, not, length, take, slice_index_or as get_or, Some, None, is_some, unwrap_or, Bool, true}
use Rattle.std.proofs.Common.{cond, ◌&&◌, ◌||◌, drop, bytes_eq, Global, refl, sym, ◌∙◌, ap, subst, arith, zero, suc, take_all, true≢false, Bor, append-nil, append_assoc, subst₂, nat_cmp, BTreeSet}
use Rattle.std.specs.List.{flat_map, AllZip, list_all, list_any}
use Rattle.std.proofs.lemmas.List.{map-append, take_more, at_drop_more}
use Rattle.serde_json.specs.Data.{Data, string, Items, no_items, item, array}
use Rattle.serde_json.specs.View.{view, members_view, items_view}
use Rattle.olk_spec.specs.Names.{Name, Path, ◌//◌, filter_once, put_if, is_among, is_empty}
use Rattle.olk_spec.specs.Faults.{Fault, fault, SingleType, string_type, UniqueItems}
use Rattle.olk_spec.specs.Schemas.{listed, texts_in, is_array}
use Rattle.olk_reports.specs.declared.error.BuildError.{BuildError}
use Rattle.olk_build.specs.Refusing.{TellsOneOf}
use Rattle.olk_build.proofs.Spending.{tells_left, tells_same}
use Rattle.olk_spec.specs.Malformed.{items_list, is_text, first_of_list, refusal, name_list_refusals, unless_array, or_else_list, has_repeat, not_a_text}
use Rattle.olk_build.specs.Reading.{not_texts, name_list_faults}
use Rattle.std.specs.BTreeSet.{contains_by, IsEmpty, Updates}
use Rattle.olk_meaning.proofs.Clean.{nothing_in}
use Rattle.serde_json.specs.{declared.value.Value.Value, Find.as_str}
use Rattle.olk_spec.proofs.{Maps.items_list-view, Truth.or_in_turn}
use Rattle.std.specs.{Cmp.Lexicographic.slice_cmp, BTreeMap.is_at}
use Rattle.std.proofs.{lemmas.Map.Text.is_eq-slice_cmp, Math.Bool.not-not, lemmas.Slice.Zip.all_zipped_more}

-- ---- the entries of an object, gone through in order

-- a place below another, under a name
pub below : (P : Path) {L : Path} {m n : Name} → L ≡ P // m → m ≡ n → L ≡ P // n
below P e f = e ∙ ap (λ k. P // k) f

pub listed_alike : {xs ys : List (String Global × Value)} → xs ≡ ys → listed (members_view xs) ≡ listed (members_view ys)
listed_alike e = ap (λ l. listed (members_view l)) e

-- each entry gives an item and is right, and shows the item
module _ {T Y : Type 0} (show : T → Y) (gives : Name × Data → Y) (wrong : Name × Data → List Fault) where
  -- the items so far, and what is left of all
  pub record EntriesSoFar (done : List T) (left all : List (String Global × Value)) : Type 0 where
    pub shown : map show done ++ map gives (listed (members_view left)) ≡ map gives (listed (members_view all))
    pub right : flat_map wrong (listed (members_view left)) ≡ flat_map wrong (listed (members_view all))

module _ {T Y : Type 0} {show : T → Y} {gives : Name × Data → Y} {wrong : Name × Data → List Fault} {all : List (String Global × Value)} where
  pub none_so_far : {done : List T} {left : List (String Global × Value)} → done ≡ [] → left ≡ all → EntriesSoFar show gives wrong done left all
  none_so_far d e = record {
    shown = λ i. map show (d i) ++ map gives (listed (members_view (e i)));
    right = ap (λ es. flat_map wrong (listed (members_view es))) e;
  }

  module _ {done : List T} {left : List (String Global × Value)} (h : EntriesSoFar show gives wrong done left all) where
    module _ {n : String Global} {v : Value} {rest : List (String Global × Value)} (steps : left ≡ (n, v) ∷ rest) where
      pub one_more_entry : {new : List T} {x : T} → new ≡ done ++ x ∷ [] → show x ≡ gives (string_bytes n, view v) → wrong (string_bytes n, view v) ≡ []
          → EntriesSoFar show gives wrong new rest all
      one_more_entry {x = x} e g w = record {
        shown = ap (λ ts. map show ts ++ map gives (listed (members_view rest))) e
            ∙ ap (λ ys. ys ++ map gives (listed (members_view rest))) (map-append show done (x ∷ []))
            ∙ append_assoc (map show done) (show x ∷ []) (map gives (listed (members_view rest)))
            ∙ ap (λ y. map show done ++ y ∷ map gives (listed (members_view rest))) g
            ∙ ap (λ es. map show done ++ map gives (listed (members_view es))) (sym steps) ∙ h.shown;
        right = ap (λ fs. fs ++ flat_map wrong (listed (members_view rest))) (sym w) ∙ ap (λ es. flat_map wrong (listed (members_view es))) (sym steps) ∙ h.right;
      }

      pub entry_refused : (e : BuildError) → TellsOneOf (wrong (string_bytes n, view v)) e → TellsOneOf (flat_map wrong (listed (members_view all))) e
      entry_refused e t =
          tells_same (ap (λ es. flat_map wrong (listed (members_view es))) (sym steps) ∙ h.right) e (tells_left (wrong (string_bytes n, view v)) (flat_map wrong (listed (members_view rest))) e t)

    module _ (ends : left ≡ []) where
      pub entries_shown : map show done ≡ map gives (listed (members_view all))
      entries_shown = sym (append-nil (map show done)) ∙ ap (λ es. map show done ++ map gives (listed (members_view es))) (sym ends) ∙ h.shown

      pub entries_right : flat_map wrong (listed (members_view all)) ≡ []
      entries_right = sym h.right ∙ ap (λ es. flat_map wrong (listed (members_view es))) ends

-- ---- arrays of texts

-- each item is a text, and these are they
abbrev pub AllTexts : List Data → List Name → Type 0
AllTexts ds ns = AllZip (λ d n. d ≡ string n) ds ns

pub text_at : (d : Data) (s : Name) → as_str d ≡ Some s → d ≡ string s
text_at (string t) s e = ap (λ o. string (unwrap_or o s)) e
text_at d s e = absurd (true≢false (sym (ap is_some e)))

no_text_at : (d : Data) → as_str d ≡ None → is_text d ≡ false
no_text_at (string t) e = absurd (true≢false (ap is_some e))
no_text_at d e = refl

skip_texts : (ds : List Data) (ns : List Name) (more : List Data) → AllTexts ds ns → filter_once (λ i. not (is_text i)) (ds ++ more) ≡ filter_once (λ i. not (is_text i)) more
skip_texts [] [] more h = refl
skip_texts (d ∷ ds) (n ∷ ns) more h = ap (λ e. put_if (not (is_text e)) d (filter_once (λ i. not (is_text i)) (ds ++ more))) h.0 ∙ skip_texts ds ns more h.1
skip_texts _ _ more h = absurd h

texts_are : (ds : Items) (ns : List Name) → AllTexts (items_list ds) ns → texts_in ds ≡ ns
texts_are no_items [] h = refl
texts_are (item d ds) (n ∷ ns) h = ap (λ e. texts_in (item e ds)) h.0 ∙ ap (λ l. n ∷ l) (texts_are ds ns h.1)
texts_are _ _ h = absurd h

cut_at : (xs : List Value) (i : ℕ) (x : Value) → i < length xs → x ≡ get_or xs i x → (more : List Data) × (map view xs ≡ map view (take i xs) ++ view x ∷ more)
cut_at [] i x l e = absurd (omega arith)
cut_at (y ∷ xs) zero x l e = (map view xs, ap (λ d. d ∷ map view xs) (ap view (sym e)))
cut_at (y ∷ xs) (suc i) x l e = let r = cut_at xs i x (omega arith) e in (r.0, ap (λ k. view y ∷ k) r.1)

module _ (xs : List Value) (i : ℕ) where
  pub one_more_text : (old new : List (String Global)) (x : Value) (k : String Global) (s : Name) → i < length xs → x ≡ get_or xs i x → as_str (view x) ≡ Some s
      → string_bytes k ≡ s → new ≡ old ++ k ∷ []
      → AllTexts (map view (take i xs)) (map string_bytes old) → AllTexts (map view (take (i + 1) xs)) (map string_bytes new)
  one_more_text old new x k s l e a b n h = subst₂ (λ p q. AllTexts p q)
      (sym (ap (map view) (take_more xs i x l ∙ ap (λ y. take i xs ++ y ∷ []) (sym e)) ∙ map-append view (take i xs) (x ∷ [])))
      (sym (ap (map string_bytes) n ∙ map-append string_bytes old (k ∷ []) ∙ ap (λ y. map string_bytes old ++ y ∷ []) b))
      (all_zipped_more (λ d n. d ≡ string n) (map view (take i xs)) (map string_bytes old) (view x) s h (text_at (view x) s a))

  module _ (vs : List Value) (same : xs ≡ vs) (ns : List Name) (h : AllTexts (map view (take i xs)) ns) where
    pub first_no_text : (P : Path) (x : Value) → i < length xs → x ≡ get_or xs i x → as_str (view x) ≡ None → fault (SingleType string_type) (view x) [] P ∷ [] ≡ not_texts P (items_view vs)
    first_no_text P x l g t =
        let r = cut_at xs i x l g in
        sym (ap (λ ys. map (λ i. refusal (SingleType string_type) i P) (first_of_list (filter_once (λ i. not (is_text i)) ys))) (items_list-view vs ∙ ap (map view) (sym same) ∙ r.1)
        ∙ ap (λ ys. map (λ i. refusal (SingleType string_type) i P) (first_of_list ys)) (skip_texts (map view (take i xs)) ns (view x ∷ r.0) h)
        ∙ ap (λ b. map (λ i. refusal (SingleType string_type) i P) (first_of_list (put_if (not b) (view x) (filter_once (λ i. not (is_text i)) r.0)))) (no_text_at (view x) t))

    module _ (l : length xs ≤ i) where
      all : AllTexts (items_list (items_view vs)) ns
      all = subst (λ ys. AllTexts ys ns) (ap (map view) (take_all i xs l ∙ same) ∙ sym (items_list-view vs)) h

      pub all_are_texts : ns ≡ texts_in (items_view vs)
      all_are_texts = sym (texts_are (items_view vs) ns all)

      pub none_is_no_text : (P : Path) → not_texts P (items_view vs) ≡ []
      none_is_no_text P = ap (λ ys. map (λ i. refusal (SingleType string_type) i P) (first_of_list (filter_once (λ i. not (is_text i)) ys))) (sym (append-nil (items_list (items_view vs))))
          ∙ ap (λ ys. map (λ i. refusal (SingleType string_type) i P) (first_of_list ys)) (skip_texts (items_list (items_view vs)) ns [] all)

-- ---- names that are repeated

-- whether a name is among those that were seen
abbrev pub is_seen : BTreeSet (Bor (List ℕ)) → Name → Bool
is_seen seen n = contains_by (λ k. slice_cmp nat_cmp n k.now) seen

-- whether one of these texts was seen, or two of them are equal
abbrev pub meets_again : BTreeSet (Bor (List ℕ)) → List Value → Bool
meets_again seen vs = list_any (is_seen seen) (texts_in (items_view vs)) || has_repeat (texts_in (items_view vs))

pub meets_none_seen : (seen : BTreeSet (Bor (List ℕ))) (vs : List Value) → IsEmpty seen → meets_again seen vs ≡ has_repeat (texts_in (items_view vs))
meets_none_seen seen vs e = ap (λ b. b || has_repeat (texts_in (items_view vs))) (none (texts_in (items_view vs)))
  where
    none : (ns : List Name) → list_any (is_seen seen) ns ≡ false
    none [] = refl
    none (n ∷ ns) = ap (λ ks. list_any (is_at (λ k. slice_cmp nat_cmp n k.now)) ks || list_any (is_seen seen) ns) e ∙ none ns

pub meets_past_others : (seen : BTreeSet (Bor (List ℕ))) (v : Value) (vs : List Value) → as_str (view v) ≡ None → meets_again seen (v ∷ vs) ≡ meets_again seen vs
meets_past_others seen v vs e = past (view v) e
  where
    past : (d : Data) → as_str d ≡ None → (list_any (is_seen seen) (texts_in (item d (items_view vs))) || has_repeat (texts_in (item d (items_view vs)))) ≡ meets_again seen vs
    past (string s) h = absurd (true≢false (ap is_some h))
    past d h = refl

module _ (seen : BTreeSet (Bor (List ℕ))) (n : Name) (v : Value) (vs : List Value) (text : as_str (view v) ≡ Some n) where
  with_text : meets_again seen (v ∷ vs) ≡ (list_any (is_seen seen) (n ∷ texts_in (items_view vs)) || has_repeat (n ∷ texts_in (items_view vs)))
  with_text = ap (λ d. list_any (is_seen seen) (texts_in (item d (items_view vs))) || has_repeat (texts_in (item d (items_view vs)))) (text_at (view v) n text)

  pub meets_seen : false ≡ not (is_seen seen n) → meets_again seen (v ∷ vs) ≡ true
  meets_seen s = with_text ∙ ap (λ b. (b || list_any (is_seen seen) (texts_in (items_view vs))) || has_repeat (n ∷ texts_in (items_view vs))) (sym (not-not (is_seen seen n)) ∙ ap not (sym s))

  pub meets_past_new : (more : BTreeSet (Bor (List ℕ))) → true ≡ not (is_seen seen n) → ((m : Name) → is_seen more m ≡ (bytes_eq n m || is_seen seen m))
      → meets_again seen (v ∷ vs) ≡ meets_again more vs
  meets_past_new more s u = with_text
      ∙ ap (λ b. (b || list_any (is_seen seen) (texts_in (items_view vs))) || has_repeat (n ∷ texts_in (items_view vs))) (sym (not-not (is_seen seen n)) ∙ ap not (sym s))
      ∙ or_in_turn (list_any (is_seen seen) (texts_in (items_view vs))) (is_among n (texts_in (items_view vs))) (has_repeat (texts_in (items_view vs)))
      ∙ sym (ap (λ b. b || has_repeat (texts_in (items_view vs))) (seen_more (texts_in (items_view vs))))
    where
      apart : (a b c d : Bool) → ((a || b) || (c || d)) ≡ ((a || c) || (b || d))
      apart true b c d = refl
      apart false true true d = refl
      apart false _ _ d = refl

      seen_more : (ms : List Name) → list_any (is_seen more) ms ≡ (is_among n ms || list_any (is_seen seen) ms)
      seen_more [] = refl
      seen_more (m ∷ ms) = (λ i. u m i || seen_more ms i) ∙ apart (bytes_eq n m) (is_seen seen m) (is_among n ms) (list_any (is_seen seen) ms)

-- the items from a place on begin with the item there
pub meets_at : (seen : BTreeSet (Bor (List ℕ))) (vs : List Value) (i : ℕ) (v : Value) → i < length vs → v ≡ get_or vs i v → meets_again seen (drop i vs) ≡ meets_again seen (v ∷ drop (i + 1) vs)
meets_at seen vs i v l e = at_drop_more (meets_again seen) vs i v l ∙ ap (λ w. meets_again seen (w ∷ drop (i + 1) vs)) (sym e)

-- what was seen before, and one name more
pub seen_one_more : (seen more : BTreeSet (Bor (List ℕ))) (n : Bor (List ℕ)) → Updates (λ x y. slice_cmp nat_cmp x.now y.now) seen more n true → (m : Name)
    → is_seen more m ≡ (bytes_eq n.now m || is_seen seen m)
seen_one_more seen more n u m = u.0 (record n { now = m }) ∙ ap (λ b. cond b true (is_seen seen m)) (is_eq-slice_cmp n.now m)
    ∙ if_or (bytes_eq n.now m) (is_seen seen m)
  where
    if_or : (a b : Bool) → cond a true b ≡ (a || b)
    if_or true b = refl
    if_or false b = refl

-- ---- what is wrong with an entry

module _ (key : Name) (P : Path) where
  pub no_array_told : (d : Data) (e : BuildError) → TellsOneOf (unless_array d (P // key)) e → TellsOneOf (name_list_refusals key d P) e
  no_array_told d e t = first_told (unless_array d (P // key)) _ t
    where
      first_told : (xs ys : List Fault) → TellsOneOf xs e → TellsOneOf (or_else_list xs ys) e
      first_told [] ys h = tells_left [] ys e h
      first_told (x ∷ xs) ys h = h

  -- an array with a name twice, and one with each name once
  repeated : (d : Data) (ds : Items) → d ≡ array ds → has_repeat (texts_in ds) ≡ true → name_list_refusals key d P ≡ refusal UniqueItems d (P // key) ∷ []
  repeated d ds is r = subst (λ x. name_list_refusals key x P ≡ refusal UniqueItems x (P // key) ∷ []) (sym is)
      (ap (λ b. or_else_list (put_if b (refusal UniqueItems (array ds) (P // key)) []) (not_a_text (array ds) P)) r)

  pub repeat_told : (d : Data) (ds : Items) (e : BuildError) → d ≡ array ds → has_repeat (texts_in ds) ≡ true → TellsOneOf (refusal UniqueItems d (P // key) ∷ []) e
      → TellsOneOf (name_list_refusals key d P) e
  repeat_told d ds e is r t = tells_same (sym (repeated d ds is r)) e t

  pub refused_as_texts : (d : Data) (ds : Items) → d ≡ array ds → has_repeat (texts_in ds) ≡ false → name_list_refusals key d P ≡ not_a_text (array ds) P
  refused_as_texts d ds is r = ap (λ x. name_list_refusals key x P) is
      ∙ ap (λ b. or_else_list (put_if b (refusal UniqueItems (array ds) (P // key)) []) (not_a_text (array ds) P)) r

-- ---- entries with nothing wrong are arrays

array_where_right : (key : Name) (d : Data) (P : Path) → name_list_refusals key d P ≡ [] → is_array d ≡ true
array_where_right key (array ds) P e = refl
array_where_right key _ P e = absurd (true≢false (sym (ap is_empty e)))

pub name_lists_are_arrays : (P : Path) (es : List (Name × Data)) → name_list_faults P es ≡ [] → list_all (λ e. is_array e.1) es ≡ true
name_lists_are_arrays P [] h = refl
name_lists_are_arrays P (e ∷ es) h =
    let p = nothing_in (name_list_refusals e.0 e.1 P) (name_list_faults P es) h in
    λ i. array_where_right e.0 e.1 P p.0 i && name_lists_are_arrays P es p.1 i
