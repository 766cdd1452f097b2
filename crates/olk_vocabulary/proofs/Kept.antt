-- What is found among candidates that are kept by their kinds.
use Rattle.std.proofs.Common.{◌≡◌, ◌<◌, ℕ, suc, List, [], ◌∷◌, ◌++◌, Bool, true, false, ◌||◌, Ordering, Less, Equal, Greater, String, Global, string_bytes, length, drop, get_or, ◌≤◌, refl, sym, ap, ◌∙◌, true≢false, pos}
use Rattle.std.specs.List.{list_any}
use Rattle.std.specs.Ordering.{match_ordering, is_eq, ordering_reverse, nan_last_cmp, nat_cmp}
use Rattle.std.specs.Float.{NotNan, Float, nan, inf, fin, float_is_finite}
use Rattle.std.specs.Float.Ieee.{is_nan}
use Rattle.std.specs.Cmp.Lexicographic.{slice_cmp}
use Rattle.std.specs.BTreeMap.{is_at}
use Rattle.std.specs.BTreeSet.{insert_key}
use Rattle.std.proofs.lemmas.List.{drop_all}
use Rattle.std.proofs.Math.Bool.{or_assoc, or-false}
use Rattle.std.proofs.lemmas.Cmp.{alike_right, nat_list_cmp_total}
use Rattle.std.proofs.lemmas.Float.{nan_last}
use Rattle.std.proofs.lemmas.Map.Lookups.{exact_bytes}
use Rattle.std.proofs.lemmas.Map.Text.{is_eq-slice_cmp}
use Rattle.std.specs.Prelude.{bytes_eq, string_cmp}
use Rattle.serde_json.specs.Data.{Data, Num, number, string}
use Rattle.serde_json.specs.View.{view, number_view}
use Rattle.serde_json.specs.declared.value.Value.{Value}
use Rattle.serde_json.specs.declared.number.Number.{Number}
use Rattle.serde_json.specs.declared.number.N.{N}
use Rattle.serde_json.specs.declared.number.N.TheVariants.{PosInt, NegInt, Float as Double}
use Rattle.serde_json.specs.Number.{is_valid, num_of as json_num}
use Rattle.olk_numbers.specs.Numbers.{exact, num_of}
use Rattle.olk_vocabulary.specs.Same.{same_value, is_number, is_text}
use Rattle.olk_vocabulary.specs.Candidates.{rank, is_among, is_kept}
use Rattle.olk_vocabulary.specs.declared.candidates.Kept.{Kept}
use Rattle.olk_vocabulary.specs.declared.ranked.RankedNumber.{RankedNumber}
use Rattle.olk_numbers.proofs.Comparisons.{eq_by_rank, of_whole-number}
use Rattle.olk_vocabulary.proofs.Sameness.{at_item}

-- ---- one more key

turned : (a b c : Bool) → (a || (b || c)) ≡ (b || c || a)
turned true true c = refl
turned true false true = refl
turned true false false = refl
turned false true c = refl
turned false false true = refl
turned false false false = refl

again : (b c : Bool) → (b || c) ≡ (b || c || b)
again true c = refl
again false true = refl
again false false = refl

pub one_more_key : {K : Type 0} (cmp : K → K → Ordering) (find : K → Ordering) (k : K) → ((x : K) → cmp k x ≡ Equal → find k ≡ find x)
    → (ks : List K) → list_any (is_at find) (insert_key cmp ks k) ≡ (list_any (is_at find) ks || is_at find k)
one_more_key cmp find k same [] = or-false (is_at find k)
one_more_key cmp find k same (x ∷ xs) = go (one_more_key cmp find k same xs) (cmp k x) refl
  where
    go : list_any (is_at find) (insert_key cmp xs k) ≡ (list_any (is_at find) xs || is_at find k) → (o : Ordering) → cmp k x ≡ o
        → list_any (is_at find) (match_ordering o (k ∷ x ∷ xs) (x ∷ xs) (x ∷ insert_key cmp xs k)) ≡ (is_at find x || list_any (is_at find) xs || is_at find k)
    go rest Less e = turned (is_at find k) (is_at find x) (list_any (is_at find) xs)
    go rest Equal e = again (is_at find x) (list_any (is_at find) xs) ∙ ap (λ o. is_at find x || list_any (is_at find) xs || is_eq o) (sym (same x e))
    go rest Greater e = ap (λ b. is_at find x || b) rest ∙ sym (or_assoc (is_at find x) (list_any (is_at find) xs) (is_at find k))

-- ---- one more candidate

-- neither a number nor a text
abbrev pub is_other : Data → Bool
is_other (number n) = false
is_other (string s) = false
is_other d = true

no_number : (d : Data) (n : Num) → is_other d ≡ true → same_value d (number n) ≡ false
no_number (number m) n h = absurd (true≢false (sym h))
no_number _ n h = refl

no_text : (d : Data) (s : List ℕ) → is_other d ≡ true → same_value d (string s) ≡ false
no_text (string t) s h = absurd (true≢false (sym h))
no_text _ s h = refl

pub number_kept : (old new : Kept) (m : RankedNumber) (n : Num) → num_of m.number ≡ n → new.numbers.keys ≡ insert_key (λ x y. nan_last_cmp (rank x) (rank y)) old.numbers.keys m
    → new.texts ≡ old.texts → new.others ≡ old.others → (v : Data) → is_kept new v ≡ (is_kept old v || is_number n v)
number_kept old new m n is more texts others (number l) =
    let found = λ (x : RankedNumber). nan_last_cmp (exact l) (rank x) in
    ap (list_any (is_at found)) more
    ∙ one_more_key (λ x y. nan_last_cmp (rank x) (rank y)) found m (λ x. alike_right nan_last (rank m) (rank x) (exact l)) old.numbers.keys
    ∙ ap (λ b. list_any (is_at found) old.numbers.keys || b) (eq_by_rank (exact l) (rank m) m.known ∙ ap (λ k. is_number k (number l)) is)
number_kept old new m n is more texts others (string s) = ap (λ t. list_any (is_at (λ k. slice_cmp nat_cmp s (string_bytes k))) t.keys) texts ∙ sym (or-false _)
number_kept old new m n is more texts others v = ap (λ o. is_among o.items v) others ∙ sym (or-false _)

text_is : (s t : List ℕ) → is_eq (slice_cmp nat_cmp s t) ≡ bytes_eq t s
text_is s t = ap is_eq (nat_list_cmp_total.antisymm s t) ∙ back (slice_cmp nat_cmp t s) ∙ is_eq-slice_cmp t s
  where
    back : (o : Ordering) → is_eq (ordering_reverse o) ≡ is_eq o
    back Less = refl
    back Equal = refl
    back Greater = refl

pub text_kept : (old new : Kept) (k : String Global) (t : List ℕ) → string_bytes k ≡ t → new.texts.keys ≡ insert_key string_cmp old.texts.keys k
    → new.numbers ≡ old.numbers → new.others ≡ old.others → (v : Data) → is_kept new v ≡ (is_kept old v || is_text t v)
text_kept old new k t is more numbers others (string s) =
    let found = λ (x : String Global). slice_cmp nat_cmp s (string_bytes x) in
    ap (list_any (is_at found)) more
    ∙ one_more_key string_cmp found k (λ x e. ap (slice_cmp nat_cmp s) (exact_bytes (string_bytes k) (string_bytes x) e)) old.texts.keys
    ∙ ap (λ b. list_any (is_at found) old.texts.keys || b) (text_is s (string_bytes k) ∙ ap (λ u. bytes_eq u s) is)
text_kept old new k t is more numbers others (number l) = ap (λ n. list_any (is_at (λ m. nan_last_cmp (exact l) (rank m))) n.keys) numbers ∙ sym (or-false _)
text_kept old new k t is more numbers others v = ap (λ o. is_among o.items v) others ∙ sym (or-false _)

among_more : (vs : List Value) (x : Value) (v : Data) → is_among (vs ++ x ∷ []) v ≡ (is_among vs v || same_value (view x) v)
among_more [] x v = or-false (same_value (view x) v)
among_more (w ∷ vs) x v = ap (λ b. same_value (view w) v || b) (among_more vs x v) ∙ sym (or_assoc (same_value (view w) v) (is_among vs v) (same_value (view x) v))

pub other_kept : (old new : Kept) (x y : Value) → new.others.items ≡ old.others.items ++ y ∷ [] → view y ≡ view x
    → new.numbers ≡ old.numbers → new.texts ≡ old.texts → is_other (view x) ≡ true → (v : Data) → is_kept new v ≡ (is_kept old v || same_value (view x) v)
other_kept old new x y more is numbers texts other (number l) =
    ap (λ n. list_any (is_at (λ m. nan_last_cmp (exact l) (rank m))) n.keys) numbers ∙ sym (or-false _) ∙ ap (λ b. is_kept old (number l) || b) (sym (no_number (view x) l other))
other_kept old new x y more is numbers texts other (string s) =
    ap (λ t. list_any (is_at (λ k. slice_cmp nat_cmp s (string_bytes k))) t.keys) texts ∙ sym (or-false _) ∙ ap (λ b. is_kept old (string s) || b) (sym (no_text (view x) s other))
other_kept old new x y more is numbers texts other v =
    ap (λ vs. is_among vs v) more ∙ among_more old.others.items y v ∙ ap (λ d. is_among old.others.items v || same_value d v) is

-- ---- all candidates

pub none_kept : (b : Bool) (k : Kept) (v : Data) → is_kept k v ≡ false → b ≡ (is_kept k v || b)
none_kept b k v none = ap (λ a. a || b) (sym none)

pub all_kept : (vs all : List Value) (k : Kept) (i : ℕ) → vs ≡ all → length vs ≤ i
    → ((v : Data) → is_among vs v ≡ (is_kept k v || is_among (drop i vs) v)) → (v : Data) → is_among all v ≡ is_kept k v
all_kept vs all k i is p kept v =
    ap (λ l. is_among l v) (sym is) ∙ kept v ∙ ap (λ l. is_kept k v || is_among l v) (drop_all i vs p) ∙ or-false (is_kept k v)

pub next_kept : (old new : Kept) (vs : List Value) (i : ℕ) (x : Value) → i < length vs → x ≡ get_or vs i x
    → ((v : Data) → is_kept new v ≡ (is_kept old v || same_value (view x) v))
    → ((v : Data) → is_among vs v ≡ (is_kept old v || is_among (drop i vs) v))
    → (v : Data) → is_among vs v ≡ (is_kept new v || is_among (drop (suc i) vs) v)
next_kept old new vs i x p e kept before v =
    before v
    ∙ (λ j. is_kept old v || is_among (at_item vs i x p e j) v)
    ∙ sym (or_assoc (is_kept old v) (same_value (view x) v) (is_among (drop (suc i) vs) v))
    ∙ ap (λ b. b || is_among (drop (suc i) vs) v) (sym (kept v))

-- ---- the numbers of JSON

finite_known : (x : Float) → float_is_finite x ≡ true → NotNan x
unfolding float_is_finite is_nan
finite_known nan h = absurd (true≢false (sym h))
finite_known (inf s) h = tt
finite_known (fin s m e) h = tt

known : (n : N) → is_valid n ≡ true → NotNan (exact (json_num n))
known (PosInt n) h = of_whole-number (pos n)
known (NegInt z) h = of_whole-number z
known (Double x) h = finite_known x h

pub number_known : (n : Number) → NotNan (exact (number_view n))
number_known n = known n.n n.valid
