-- Errors that a keyword shows itself.
use mathlib.Core.Path.{subst₂}
use Rattle.std.proofs.Common.{◌≡◌, ℕ, ◌+◌, ◌==◌, ◌<◌, ◌≤◌, length, get_or, drop, String, Global, Bor, string_bytes, Bool, true, false, not, ◌&&◌, arith, List, [], ◌∷◌, ◌++◌, map, Option, Some, None, refl, sym, ap, subst, ◌∙◌, append_assoc}
use Rattle.std.specs.List.{list_all}
use Rattle.std.proofs.lemmas.List.{append-nil, at_drop_more, drop_all}
use Rattle.std.proofs.lemmas.List.Sorted.{IsPermutation-map, IsPermutation-refl, length_permutation}
use Rattle.std.proofs.lemmas.Simd.{map-map}
use Rattle.std.proofs.Math.Bool.{and-false, and-true, not-not}
use Rattle.std.specs.List.Sorted.{IsPermutation}
use Rattle.serde_json.specs.Data.{Data, Members, object}
use Rattle.serde_json.specs.View.{view, members_view}
use Rattle.serde_json.specs.declared.value.Value.{Value}
use Rattle.olk_spec.specs.Names.{Name, Text, Path, is_empty, put_if}
use Rattle.olk_spec.specs.Faults.{Fault, Kind, fault, AdditionalProperties, Leaf, Required, FalseSchema}
use Rattle.olk_spec.specs.Reports.{fault_if, unexpected_faults}
use Rattle.olk_spec.specs.Tree.{Tree, AreTold, Described, described, described_fault, leaf_node, IsLikeTree, is_valid, erring, result}
use Rattle.serde_json.specs.Find.{as_object}
use Rattle.olk_check.proofs.Missing.{lacks_nothing}
use Rattle.olk_spec.specs.Schemas.{has, listed, members}
use Rattle.olk_spec.specs.Accepts.{missing}
use Rattle.olk_tree.specs.Maps.{texts_of}
use Rattle.olk_tree.specs.OwnFaults.{fault_if_agrees, unless}
use Rattle.olk_reports.specs.Evaluations.{Shown, shown, nothing_shown, errored, errored_by, with_children, AddsErrors, node_at}
use Rattle.olk_evaluate.specs.Wanted.{Wanted, IsShown, AreShown, ShowsMore, refused, lacking_trees, HasTexts}
use Rattle.olk_evaluate.specs.Additional.{annotated_if, named_faults, names_of}
use Rattle.olk_evaluate.proofs.Children.{emptiness_of, trees_wanted, all_wanted, shown_as, result_shown, valid_shown, shows_none, shows_one}

-- ---- errors more

pub adds_none : (s : Shown) → AddsErrors [] s s
adds_none s = record { own = []; told = tt; is = refl }

-- the same kind of the same value, as both are told
pub adds_as : {j k : Kind} {v w : Data} {P Q : Path} {s r : Shown} → j ≡ k → v ≡ w → AddsErrors (fault j v Q P ∷ []) s r → AddsErrors (fault k w Q P ∷ []) s r
adds_as {P = P} {Q} {s} {r} kind value h = subst₂ (λ k v. AddsErrors (fault k v Q P ∷ []) s r) kind value h

errored_both : (ds es : List Described) (s : Shown) → errored_by es (errored_by ds s) ≡ errored_by (ds ++ es) s
errored_both [] es s = refl
errored_both (d ∷ ds) es s = errored_both ds es (errored d s)

told_both : (fs gs : List Fault) (ds es : List Described) → AreTold (described fs) ds → AreTold (described gs) es → AreTold (described (fs ++ gs)) (ds ++ es)
told_both [] gs [] es h k = k
told_both [] gs (d ∷ ds) es h k = absurd h
told_both (f ∷ fs) gs [] es h k = absurd h
told_both (f ∷ fs) gs (d ∷ ds) es h k = (h.0, h.1, told_both fs gs ds es h.2 k)

pub adds_both : {fs gs : List Fault} {a b c : Shown} → AddsErrors fs a b → AddsErrors gs b c → AddsErrors (fs ++ gs) a c
adds_both {fs} {gs} {a} h k = record {
  own = h.own ++ k.own;
  told = told_both fs gs h.own k.own h.told k.told;
  is = k.is ∙ ap (errored_by k.own) h.is ∙ errored_both h.own k.own a;
}

-- the errors so far, and those that are left, are all
pub record ErrorsFrom (all left : List Fault) (old new : Shown) : Type 0 where
  pub goes_on : (end : Shown) → AddsErrors left new end → AddsErrors all old end

pub errors_start : {fs : List Fault} {s : Shown} → ErrorsFrom fs fs s s
errors_start = record { goes_on = λ end h. h }

module _ {all left : List Fault} {a b : Shown} where
  pub errors_more : {here rest : List Fault} {c : Shown} → ErrorsFrom all left a b → left ≡ here ++ rest → AddsErrors here b c → ErrorsFrom all rest a c
  errors_more h e more = record { goes_on = λ end k. h.goes_on end (subst (λ fs. AddsErrors fs b end) (sym e) (adds_both more k)) }

  pub errors_end : ErrorsFrom all left a b → left ≡ [] → AddsErrors all a b
  errors_end h e = h.goes_on b (subst (λ fs. AddsErrors fs b b) (sym e) (adds_none b))

-- ---- the tree of own errors

errored_shown : (own : List Described) (b : Bool) (A : Option (List Name)) (es : List Described) (cs : List Tree) → errored_by own (shown b A es cs) ≡ shown (is_empty own && b) A (es ++ own) cs
errored_shown [] b A es cs = ap (λ l. shown b A l cs) (sym (append-nil es))
errored_shown (d ∷ ds) b A es cs = errored_shown ds false A (es ++ d ∷ []) cs ∙ (λ i. shown (and-false (is_empty ds) i) A (append_assoc es (d ∷ []) ds i) cs)

annotated_shown : (A : Option (List Name)) (b : Bool) (cs : List Tree) → annotated_if A (shown b None [] cs) ≡ shown b A [] cs
annotated_shown None b cs = refl
annotated_shown (Some ns) b cs = refl

empty_described : (fs : List Fault) → is_empty (described fs) ≡ is_empty fs
empty_described [] = refl
empty_described (f ∷ fs) = refl

module _ (P Q : Path) (fs : List Fault) {s r : Shown} where
  -- own errors, an annotation and children that are wanted
  pub complete_shown : (A : Option (List Name)) (ws : List Wanted) (cs : List Tree) → s ≡ shown (list_all is_valid cs) None [] cs → AddsErrors fs (annotated_if A s) r → AreShown ws cs
      → IsShown (result P Q A false (described fs) (trees_wanted ws), is_empty fs && all_wanted ws) (node_at P Q r)
  complete_shown A ws cs same h children = shown_as (result_shown P Q A false (described fs) h.own ws cs
      (h.is ∙ ap (λ x. errored_by h.own (annotated_if A x)) same ∙ ap (errored_by h.own) (annotated_shown A (list_all is_valid cs) cs)
      ∙ errored_shown h.own (list_all is_valid cs) A [] cs ∙ (λ i. shown (sym (and-true (is_empty h.own)) i && list_all is_valid cs) A h.own cs))
      h.told children) refl (λ i. (and-true (is_empty (described fs)) ∙ empty_described fs) i && all_wanted ws)

  -- own errors alone
  pub erring_shown : s ≡ shown true None [] [] → AddsErrors fs s r → IsShown (erring P Q fs, is_empty fs) (node_at P Q r)
  erring_shown none h = shown_as (complete_shown None [] [] none h tt) refl (and-true (is_empty fs))

-- one error, or none
pub refusal_shown : (k : Kind) (v : Data) (P Q : Path) (b : Bool) {c : Bool} {s r : Shown} → b ≡ c → s ≡ shown true None [] [] → AddsErrors (fault_if b k v P Q) s r
    → IsShown (erring P Q (fault_if c k v P Q), not c) (node_at P Q r)
refusal_shown k v P Q b e none h = shown_as (erring_shown P Q (fault_if b k v P Q) none h) (ap (λ c. erring P Q (fault_if c k v P Q)) e) (fault_if_agrees b k v P Q ∙ ap not e)

-- an object that is to have no members
pub members_shown : (v : Data) (P Q : Path) (b : Bool) {s r : Shown} → b ≡ is_empty (members v) → s ≡ shown true None [] [] → AddsErrors (unless b FalseSchema v P Q) s r
    → IsShown (erring P Q (unless (is_empty (members v)) FalseSchema v P Q), is_empty (members v)) (node_at P Q r)
members_shown v P Q b e none h = shown_as (refusal_shown FalseSchema v P Q (not b) (ap not e) none h) refl (not-not (is_empty (members v)))

-- ---- members that are not expected

-- told by name
pub names_told : (ns : List (Bor (List ℕ))) (v : Data) (P Q : Path) {n : ℕ} {s r : Shown} → n ≡ length ns → false ≡ (n == 0)
    → AddsErrors (fault (AdditionalProperties (names_of ns)) v Q P ∷ []) s r → AddsErrors (named_faults (names_of ns) v P Q) s r
names_told ns v P Q {s = s} {r} len some =
    subst (λ b. AddsErrors (put_if (not b) (fault (AdditionalProperties (names_of ns)) v Q P) []) s r) (emptiness_of (λ n. n.now) ns len some)

-- the first of them
pub first_told : (v : Data) (P Q : Path) {all left rest : List (String Global × Value)} {k : String Global} {w : Value} {s r : Shown} → left ≡ (k, w) ∷ rest → left ≡ all
    → AddsErrors (fault FalseSchema (view w) Q P ∷ []) s r → AddsErrors (unexpected_faults false (listed (members_view all)) v P Q) s r
first_told v P Q {s = s} {r} first whole = subst (λ es. AddsErrors (unexpected_faults false (listed (members_view es)) v P Q) s r) (sym first ∙ whole)

-- ---- names that an object lacks

module _ (f : Name → Fault) where
  one_missing : (b : Bool) (n : Name) (ns : List Name) → map f (put_if b n ns) ≡ put_if b (f n) [] ++ map f ns
  one_missing true n ns = refl
  one_missing false n ns = refl

  none_missing : (ns : List Name) → is_empty ns ≡ true → map f ns ≡ []
  none_missing [] e = refl
  none_missing (n ∷ ns) e = cc

  pub same_emptiness : (ns : List Name) → is_empty (map f ns) ≡ is_empty ns
  same_emptiness [] = refl
  same_emptiness (n ∷ ns) = refl

  -- what is no object lacks nothing
  pub lacks_none : (ns : List Name) (v : Data) (s : Shown) → None ≡ as_object v → AddsErrors (map f (missing ns v)) s s
  lacks_none ns v s e = subst (λ fs. AddsErrors fs s s) (sym (none_missing (missing ns v) (lacks_nothing ns v e))) (adds_none s)

  -- the errors of two names
  pub two_missing : (a b : Bool) (n k : Name) {s r : Shown} → AddsErrors (put_if a (f n) [] ++ put_if b (f k) []) s r → AddsErrors (map f (put_if a n (put_if b k []))) s r
  two_missing true true n k h = h
  two_missing true false n k h = h
  two_missing false true n k h = h
  two_missing false false n k h = h

both_or_lacking : (a b : Bool) (n k : Name) → not (a && b) ≡ not (is_empty (put_if (not a) n (put_if (not b) k [])))
both_or_lacking true true n k = refl
both_or_lacking true false n k = refl
both_or_lacking false b n k = refl

-- of two names one is lacking where not both are there
pub one_of_two_lacking : (ms : Members) (n k : Name) {a b c : Bool} → a ≡ has n (object ms) → b ≡ has k (object ms) → a && b ≡ c → not c ≡ not (is_empty (missing (n ∷ k ∷ []) (object ms)))
one_of_two_lacking ms n k h i e = sym (ap not e) ∙ (λ j. not (h j && i j)) ∙ both_or_lacking (has n (object ms)) (has k (object ms)) n k

module _ (ms : Members) (f : Name → Fault) (names ys : List (String Global)) (i : ℕ) where
  -- the faults of the names from i on
  abbrev pub faults_from_at : ℕ → List Fault
  faults_from_at j = map f (missing (texts_of (drop j names)) (object ms))

  pub missing_at : {x : String Global} {n : Name} → ys ≡ names → x ≡ get_or ys i x → i < length ys → n ≡ string_bytes x → faults_from_at i ≡ put_if
      (not (has n (object ms))) (f n) [] ++ faults_from_at (i + 1)
  missing_at {x} {n} same is lt name =
      ap (λ l. map f (missing (texts_of l) (object ms))) (at_drop_more (λ l. l) names i x (subst (λ zs. i < length zs) same lt)
      ∙ ap (λ y. y ∷ drop (i + 1) names) (sym (is ∙ ap (λ zs. get_or zs i x) same)))
      ∙ one_missing f (not (has (string_bytes x) (object ms))) (string_bytes x) (missing (texts_of (drop (i + 1) names)) (object ms))
      ∙ ap (λ k. put_if (not (has k (object ms))) (f k) [] ++ faults_from_at (i + 1)) (sym name)

  pub missing_end : ys ≡ names → length ys ≤ i → faults_from_at i ≡ []
  missing_end same le = ap (λ l. map f (missing (texts_of l) (object ms))) (drop_all i names (subst (λ zs. length zs ≤ i) same le))

-- ---- the texts of a leaf

module _ (k : Name) where
  abbrev told_as : Text → Described
  told_as t = (k, t, false)

  same_emptiness_after : (ts us : List Text) → IsPermutation ts us → is_empty us ≡ is_empty ts
  same_emptiness_after [] [] p = refl
  same_emptiness_after [] (u ∷ us) p = absurd (omega (arith, length_permutation [] (u ∷ us) p))
  same_emptiness_after (t ∷ ts) [] p = absurd (omega (arith, length_permutation (t ∷ ts) [] p))
  same_emptiness_after (t ∷ ts) (u ∷ us) p = refl

  pub has_texts : {ts us : List Text} {s : Shown} → IsPermutation ts us → s ≡ shown (is_empty us) None (map told_as us) [] → HasTexts k ts s
  has_texts {ts} {us} p h = record {
    own = map told_as us;
    is = h ∙ ap (λ b. shown b None (map told_as us) []) (same_emptiness_after ts us p);
    told = IsPermutation-map told_as ts us p;
  }

  pub no_texts : (ts : List Text) {s : Shown} → true ≡ is_empty ts → s ≡ shown true None [] [] → HasTexts k ts s
  no_texts [] e h = record { own = []; is = h; told = IsPermutation-refl [] }
  no_texts (t ∷ ts) e h = cc

  module _ (P Q : Path) (v : Data) (ts : List Text) where
    abbrev faults_told : List Fault
    faults_told = map (λ t. fault (Leaf k t) v Q P) ts

    pub leaf_shown : {s : Shown} → HasTexts k ts s → IsShown (leaf_node P Q (described faults_told), is_empty ts) (node_at P Q s)
    leaf_shown {s} h = record {
      like = subst (λ r. IsLikeTree (leaf_node P Q (described faults_told)) (node_at P Q r)) (sym h.is)
          (subst (λ ds. IsLikeTree (leaf_node P Q ds) (node_at P Q (shown (is_empty ts) None h.own []))) (sym (map-map described_fault (λ t. fault (Leaf k t) v Q P) ts)) (by (is_empty ts) refl));
      verdict = valid_shown P Q s (is_empty ts) None h.own [] h.is;
    }
      where
        empty_as : (us : List Text) → is_empty (map told_as us) ≡ is_empty us
        empty_as [] = refl
        empty_as (u ∷ us) = refl

        by : (b : Bool) → is_empty ts ≡ b → IsLikeTree (leaf_node P Q (map told_as ts)) (node_at P Q (shown b None h.own []))
        by true e = (refl, refl, sym (empty_as ts ∙ e), refl, h.told, refl)
        by false e = (refl, refl, sym (empty_as ts ∙ e), refl, h.told, refl)

-- ---- a child for names that are missing

taken : (b : Bool) → true ≡ not b → b ≡ false
taken true e = cc
taken false e = refl

module _ (ns : List Name) (v w : Data) (P Q : Path) where
  abbrev lacking_faults : List Fault
  lacking_faults = map (λ n. fault (Required n) v Q P) (missing ns w)

  pub none_lacking : (s : Shown) → false ≡ not (is_empty (missing ns w)) → ShowsMore (refused (lacking_trees ns v w P Q)) s s
  none_lacking s e = subst (λ b. ShowsMore (refused (put_if b (erring P Q lacking_faults) [])) s s) e (shows_none s)

  pub some_lacking : {s r old new : Shown} → true ≡ not (is_empty (missing ns w)) → s ≡ nothing_shown → AddsErrors lacking_faults s r
      → new ≡ with_children (node_at P Q r ∷ []) old → ShowsMore (refused (lacking_trees ns v w P Q)) old new
  some_lacking {r = r} {old} {new} e none h below =
      let child : IsShown (erring P Q lacking_faults, false) (node_at P Q r)
      = shown_as (erring_shown P Q lacking_faults none h) refl (same_emptiness (λ n. fault (Required n) v Q P) (missing ns w) ∙ taken (is_empty (missing ns w)) e) in
      subst (λ b. ShowsMore (refused (put_if b (erring P Q lacking_faults) [])) old new) e (shows_one child below)

  lacking_wanted : (b : Bool) (t : Tree) → list_all (λ x. x.1) (refused (put_if (not b) t [])) ≡ b
  lacking_wanted true t = refl
  lacking_wanted false t = refl

  pub all_there : list_all (λ x. x.1) (refused (lacking_trees ns v w P Q)) ≡ is_empty (missing ns w)
  all_there = lacking_wanted (is_empty (missing ns w)) (erring P Q lacking_faults)

-- the same of one name
module _ (n : Name) (v : Data) (ms : Members) (P Q : Path) where
  abbrev lacks_if : Bool → Bool
  lacks_if has = not (is_empty (put_if (not has) n []))

  pub not_lacking : (s : Shown) → true ≡ has n (object ms) → ShowsMore (refused (lacking_trees (n ∷ []) v (object ms) P Q)) s s
  not_lacking s e = none_lacking (n ∷ []) v (object ms) P Q s (ap lacks_if e)

  pub one_lacking : {s r old new : Shown} → false ≡ has n (object ms) → s ≡ nothing_shown → AddsErrors (fault (Required n) v Q P ∷ []) s r
      → new ≡ with_children (node_at P Q r ∷ []) old → ShowsMore (refused (lacking_trees (n ∷ []) v (object ms) P Q)) old new
  one_lacking {s} {r} e none h = some_lacking (n ∷ []) v (object ms) P Q (ap lacks_if e) none (subst (λ b. AddsErrors (map (λ k. fault (Required k) v Q P) (put_if (not b) n [])) s r) e h)

-- under other names
pub same_lacking : {ns ks : List Name} {P R Q S : Path} {s r : Shown} (v w : Data) → ns ≡ ks → P ≡ R → Q ≡ S → ShowsMore (refused (lacking_trees ns v w P Q)) s r
    → ShowsMore (refused (lacking_trees ks v w R S)) s r
same_lacking {s = s} {r} v w e f g = subst (λ l. ShowsMore (refused l) s r) (λ i. lacking_trees (e i) v w (f i) (g i))
