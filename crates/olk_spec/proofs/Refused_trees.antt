-- Which trees are the tree of a schema over a value.
use Rattle.std.specs.Prelude.{◌≡◌, Bool, true, false, List, [], ◌∷◌, ◌++◌, map, option_to_list, is_some, IsPermutation}
use Rattle.std.specs.List.{list_all}
use Rattle.std.proofs.Common.{refl, sym, ◌∙◌, ap, subst, true≢false, arith}
use Rattle.std.proofs.lemmas.Bool.{and_parts}
use Rattle.std.specs.Fmt.{digits}
use Rattle.std.specs.Str.{chars}
use Rattle.std.proofs.lemmas.List.Sorted.{IsPermutation-refl, IsPermutation-sym, IsPermutation-map, IsPermutation-append, length_permutation}
use Rattle.std.proofs.lemmas.List.{map-append, append-nil}
use mathlib.Core.Path.{subst₂}
use Rattle.std.proofs.lemmas.List.Folds.{list_all-append}
use Rattle.olk_spec.proofs.Truth.{not_true}
use Rattle.serde_json.proofs.OnLiterals.{serde_json_on_literals}
use Rattle.olk_spec.specs.Names.{Path, is_empty}
use Rattle.olk_spec.specs.Literals.{literal}
use Rattle.olk_spec.specs.Meaning.{meaning, tree}
use Rattle.olk_spec.specs.Tree.{Tree, node, leaf_node, Trees, no_tree, and_tree, Described, AreTold, IsLikeTree, AreLikeTrees, is_valid, annotations, annotations_of, errors, errors_of}
use Rattle.olk_spec.specs.Refused_trees.{counted, frame, frames, error_keyword, error_text}
use Rattle.olk_spec.specs.Refused_trees as refused
use Rattle.olk_spec.proofs.Order.{along_permutation}

pub same_validity : (t n : Tree) → IsLikeTree t n → is_valid n ≡ is_valid t
same_validity (node P Q b a es ts) (node P' Q' b' a' es' ts') (p, q, h, k, l, m) = h
same_validity (node P Q b a es ts) (leaf_node P' Q' es') h = absurd h
same_validity (leaf_node P Q es) (node P' Q' b' a' es' ts') (p, q, h, k, l, m) = h
same_validity (leaf_node P Q es) (leaf_node P' Q' es') h = absurd h

mutual
  same_annotations : (t n : Tree) → IsLikeTree t n → annotations n ≡ annotations t
  same_annotations (node P Q b a es ts) (node P' Q' b' a' es' ts') (p, q, h, k, l, m) = λ i. map (λ ns. (p i, q i, ns)) (option_to_list (k i)) ++ all_annotations ts ts' m i
  same_annotations (node P Q b a es ts) (leaf_node P' Q' es') h = absurd h
  same_annotations (leaf_node P Q es) (node P' Q' b' a' es' ts') (p, q, h, k, l, m) = λ i. map (λ ns. (p i, q i, ns)) (option_to_list (k i)) ++ annotations_of (m i)
  same_annotations (leaf_node P Q es) (leaf_node P' Q' es') h = absurd h

  all_annotations : (ts us : Trees) → AreLikeTrees ts us → annotations_of us ≡ annotations_of ts
  all_annotations no_tree no_tree h = refl
  all_annotations (and_tree t ts) (and_tree u us) (h, k) = λ i. same_annotations t u h i ++ all_annotations ts us k i
  all_annotations _ _ h = absurd h

-- ---- own errors: how many, and what is the same of those that are told

as_many_told : (es es' : List Described) → AreTold es es' → counted es' ≡ counted es
as_many_told [] [] h = refl
as_many_told (d ∷ es) (e ∷ es') (k, t, h) = ap (λ r. ([], [], false) ∷ r) (as_many_told es es' h)
as_many_told _ _ h = absurd h

as_many : (es es' : List Described) → IsPermutation es es' → counted es ≡ counted es'
as_many = along_permutation _ (λ xs. refl) (λ x xs ys h. ap (λ r. ([], [], false) ∷ r) h) (λ x y xs. refl) (λ xs ys zs h k. h ∙ k)

mutual
  same_frame : (t n : Tree) → IsLikeTree t n → frame n ≡ frame t
  same_frame (node P Q b a es ts) (node P' Q' b' a' es' ts') (p, q, h, k, l, m) = λ i. node (p i) (q i) (h i) (k i) (as_many_told es es' l i) (same_frames ts ts' m i)
  same_frame (node P Q b a es ts) (leaf_node P' Q' es') h = absurd h
  same_frame (leaf_node P Q es) (node P' Q' b' a' es' ts') (p, q, h, k, l, m) = λ i. node (p i) (q i) (h i) (k i) (sym (as_many es es' l) i) (frames (m i))
  same_frame (leaf_node P Q es) (leaf_node P' Q' es') h = absurd h

  same_frames : (ts us : Trees) → AreLikeTrees ts us → frames us ≡ frames ts
  same_frames no_tree no_tree h = refl
  same_frames (and_tree t ts) (and_tree u us) (h, k) = λ i. and_tree (same_frame t u h i) (same_frames ts us k i)
  same_frames _ _ h = absurd h

-- ---- errors with their paths: f is what is to be the same of an error and of the one that tells it, where ok holds of the first

module _ {B : Type 0} (f : Path × Path × Described → B) (ok : Described → Bool)
    (same : (P Q : Path) (d e : Described) → ok d ≡ true → e.0 ≡ d.0 → (d.2 ≡ false → e.1 ≡ d.1) → f (P, Q, e) ≡ f (P, Q, d)) where
  abbrev at : Path → Path → List Described → List (Path × Path × Described)
  at P Q es = map (λ e. (P, Q, e)) es

  abbrev all_ok : List (Path × Path × Described) → Type 0
  all_ok es = list_all (λ e. ok e.2) es ≡ true

  own_errors : (P Q : Path) (es es' : List Described) → AreTold es es' → all_ok (at P Q es) → map f (at P Q es') ≡ map f (at P Q es)
  own_errors P Q [] [] h o = refl
  own_errors P Q (d ∷ es) (e ∷ es') (k, t, h) o = λ i. same P Q d e (and_parts (ok d) _ o).0 k t i ∷ own_errors P Q es es' h (and_parts (ok d) _ o).1 i
  own_errors P Q _ _ h o = absurd h

  -- those of a node, and those of its children
  joined : (es es' ts ts' : List (Path × Path × Described)) → IsPermutation (map f es') (map f es) → IsPermutation (map f ts') (map f ts) → IsPermutation (map f (es' ++ ts')) (map f (es ++ ts))
  joined es es' ts ts' h k = subst₂ IsPermutation (sym (map-append f es' ts')) (sym (map-append f es ts)) (IsPermutation-append _ _ _ _ h k)

  mutual
    same_errors : (t n : Tree) → all_ok (errors t) → IsLikeTree t n → IsPermutation (map f (errors n)) (map f (errors t))
    same_errors (node P Q b a es ts) (node P' Q' b' a' es' ts') o (p, q, h, k, l, m) =
        let parts = and_parts (list_all (λ e. ok e.2) (at P Q es)) (list_all (λ e. ok e.2) (errors_of ts)) (sym (list_all-append (λ e. ok e.2) (at P Q es) (errors_of ts)) ∙ o) in
        joined (at P Q es) (at P' Q' es') (errors_of ts) (errors_of ts')
        (subst (λ r. IsPermutation r (map f (at P Q es))) (sym (own_errors P Q es es' l parts.0) ∙ (λ i. map f (at (sym p i) (sym q i) es'))) (IsPermutation-refl _))
        (all_errors ts ts' parts.1 m)
    same_errors (node P Q b a es ts) (leaf_node P' Q' es') o h = absurd h
    same_errors (leaf_node P Q es) (node P' Q' b' a' es' ts') o (p, q, h, k, l, m) =
        subst (λ r. IsPermutation (map f r) (map f (at P Q es))) (λ i. at (sym p i) (sym q i) es' ++ errors_of (sym m i))
        (subst (λ r. IsPermutation (map f r) (map f (at P Q es))) (sym (append-nil _)) (IsPermutation-map f _ _ (IsPermutation-map _ _ _ (IsPermutation-sym _ _ l))))
    same_errors (leaf_node P Q es) (leaf_node P' Q' es') o h = absurd h

    all_errors : (ts us : Trees) → all_ok (errors_of ts) → AreLikeTrees ts us → IsPermutation (map f (errors_of us)) (map f (errors_of ts))
    all_errors no_tree no_tree o h = IsPermutation-refl _
    all_errors (and_tree t ts) (and_tree u us) o (h, k) =
        let parts = and_parts (list_all (λ e. ok e.2) (errors t)) (list_all (λ e. ok e.2) (errors_of ts)) (sym (list_all-append (λ e. ok e.2) (errors t) (errors_of ts)) ∙ o) in
        joined (errors t) (errors u) (errors_of ts) (errors_of us) (same_errors t u parts.0 h) (all_errors ts us parts.1 k)
    all_errors _ _ o h = absurd h

any_passes : {X : Type 0} (xs : List X) → list_all (λ x. true) xs ≡ true
any_passes [] = refl
any_passes (x ∷ xs) = any_passes xs

pub one_frame : refused.One_frame
one_frame W u S v P Q t h = same_frame _ t h

pub one_list_of_keywords : refused.One_list_of_keywords
one_list_of_keywords W u S v P Q t h = same_errors error_keyword (λ d. true) (λ P Q d e o k r. λ i. (P, Q, k i)) _ t (any_passes (errors (tree W u S v P Q))) h

pub one_list_of_texts : refused.One_list_of_texts
one_list_of_texts W u S v P Q t o h = same_errors error_text _ (λ P Q d e o k r. λ i. (P, Q, k i, r (not_true d.2 o) i)) _ t o h

pub one_validity : refused.One_validity
one_validity W u S v P Q t h = same_validity _ t h

pub one_list_of_annotations : refused.One_list_of_annotations
one_list_of_annotations W u S v P Q t h = same_annotations _ t h

pub names_are_shown : refused.Names_are_shown
unfolding literal chars digits meaning serde_json_on_literals
names_are_shown u = search

pub without_its_names_it_is_no_tree : refused.Without_its_names_it_is_no_tree
unfolding literal chars digits meaning serde_json_on_literals
without_its_names_it_is_no_tree u (p, q, b, a, es, ((p', q', b', h, es', rest), end)) = true≢false (sym (ap is_some h))

pub at_another_member_it_is_no_tree : refused.At_another_member_it_is_no_tree
unfolding literal chars digits meaning serde_json_on_literals
at_another_member_it_is_no_tree u (p, q, b, a, es, ((p', q', b', a', es', ((p'', h, b'', a'', es'', rest), last)), end)) = true≢false (ap is_empty h)

pub errors_are_told : refused.Errors_are_told
unfolding literal chars digits meaning serde_json_on_literals
errors_are_told u = search

pub with_another_text_it_is_no_tree : refused.With_another_text_it_is_no_tree
unfolding literal chars digits meaning serde_json_on_literals
with_another_text_it_is_no_tree u (p, q, b, a, es, ((p', q', b', a', (k, h, more), rest), end)) = true≢false (ap is_empty (h refl))

pub without_its_error_it_is_no_tree : refused.Without_its_error_it_is_no_tree
unfolding literal chars digits meaning serde_json_on_literals
without_its_error_it_is_no_tree u (p, q, b, a, es, ((p', q', b', a', h, rest), end)) = h

pub any_text_stands_for_a_fraction : refused.Any_text_stands_for_a_fraction
unfolding literal chars digits meaning serde_json_on_literals
any_text_stands_for_a_fraction u t = (refl, refl, refl, refl, tt, ((refl, refl, refl, refl, (refl, (λ h. absurd (true≢false h)), tt), tt), tt))

pub texts_of_a_leaf_stand_in_any_order : refused.Texts_of_a_leaf_stand_in_any_order
texts_of_a_leaf_stand_in_any_order = ((refl, refl, refl, refl, IsPermutation-refl _, refl), (refl, refl, refl, refl, record { moves = (0, 1) ∷ []; below = (omega arith, omega arith, tt); is = refl }, refl))

pub without_one_of_its_texts_it_is_no_leaf : refused.Without_one_of_its_texts_it_is_no_leaf
without_one_of_its_texts_it_is_no_leaf (p, q, b, a, h, rest) = let e = length_permutation _ _ h in omega arith
