-- Trees of lists, and trees with children more.
use Rattle.std.proofs.Common.{◌≡◌, Bool, true, false, not, ◌&&◌, List, [], ◌∷◌, ◌++◌, map, Option, None, refl, sym, ap, subst, ◌∙◌}
use Rattle.std.specs.List.{list_all}
use Rattle.std.proofs.lemmas.Simd.{map-map}
use Rattle.serde_json.specs.Data.{Data}
use Rattle.olk_spec.specs.Names.{Name, Path, is_empty}
use Rattle.olk_spec.specs.Faults.{fault, FalseSchema}
use Rattle.olk_spec.specs.Tree.{Tree, node, Trees, no_tree, and_tree, trees_from, Described, described, IsLikeTree, AreLikeTrees, is_valid, result_node, result, plain}
use Rattle.olk_document_spec.specs.Steps.{behind, with_children}
use Rattle.olk_reports.specs.Evaluations.{Shown, shown, nothing_shown, node_at, with_children as grown}
use Rattle.olk_tree.specs.Answers.{Meanings, Showings}
use Rattle.olk_tree.specs.Bodies.{body_tree, body_means}
use Rattle.olk_tree.specs.Questions.{Question, every}
use Rattle.olk_tree.specs.Required.{required_answers}
use Rattle.olk_tree.specs.declared.node.Body.{Body}
use Rattle.olk_tree.specs.declared.node.Body.TheVariants.{True, False, Keywords, RequiredNames}
use Rattle.olk_evaluate.specs.Wanted.{Wanted, AreShown, IsShown, ShowsMore, ShowsBody, each_wanted}
use Rattle.olk_evaluate.proofs.Children.{trees_wanted, all_wanted, all_valid, all_wanted_valid, like_children, like_result, valid_shown, shown_as, no_children, shows_none, from_nothing, plain_shown}
use Rattle.olk_documents.specs.Wanted.{place_wanted}

-- a child for each of a list
module _ {X : Type 0} (t : X → Tree) (q : X → Question) (u : Bool) where
  abbrev list_wanted : List X → List Wanted
  list_wanted xs = map (λ x. (t x, (q x).accepts u)) xs

  trees_of_list : (xs : List X) → trees_wanted (list_wanted xs) ≡ map t xs
  trees_of_list xs = map-map (λ w. w.0) (λ x. (t x, (q x).accepts u)) xs

  verdict_of_list : (xs : List X) → all_wanted (list_wanted xs) ≡ (every q xs).accepts u
  verdict_of_list [] = refl
  verdict_of_list (x ∷ xs) = ap (λ b. (q x).accepts u && b) (verdict_of_list xs)

  module _ (xs : List X) (P Q : Path) {s : Shown} (none : s ≡ nothing_shown) where
    pub list_shown : {r : Shown} → ShowsMore (list_wanted xs) s r → IsShown (plain P Q (map t xs), (every q xs).accepts u) (node_at P Q r)
    list_shown h = shown_as (plain_shown P Q (list_wanted xs) h.shown (from_nothing none h)) (ap (plain P Q) (trees_of_list xs)) (verdict_of_list xs)

    -- where the list is empty
    pub nothing_listed_shown : xs ≡ [] → IsShown (plain P Q (map t xs), (every q xs).accepts u) (node_at P Q s)
    nothing_listed_shown empty = list_shown (subst (λ l. ShowsMore (list_wanted l) s s) (sym empty) (shows_none s))

-- ---- children more

likes_behind : (ts : Trees) (us vs ws : List Tree) → AreLikeTrees ts (trees_from us) → AreLikeTrees (trees_from vs) (trees_from ws) → AreLikeTrees (behind ts vs) (trees_from (us ++ ws))
likes_behind no_tree [] vs ws h k = k
likes_behind no_tree (u ∷ us) vs ws h k = absurd h
likes_behind (and_tree t ts) [] vs ws h k = absurd h
likes_behind (and_tree t ts) (u ∷ us) vs ws h k = (h.0, likes_behind ts us vs ws h.1 k)

module _ (P Q : Path) where
  -- a node without an annotation
  record IsUnannotated (t : Tree) : Type 0 where
    pub valid : Bool
    pub own : List Described
    pub below : Trees
    pub is : t ≡ node P Q valid None own below

  unannotated : (b : Bool) (es : List Described) (ts : Trees) → result_node P Q b None es ts ≡ node P Q b None es ts
  unannotated true es ts = refl
  unannotated false es ts = refl

  result_unannotated : (es : List Described) (ts : List Tree) → IsUnannotated (result P Q None false es ts)
  result_unannotated es ts = let valid = is_empty es && not false && list_all is_valid ts in record { valid = valid; own = es; below = trees_from ts; is = unannotated valid es (trees_from ts) }

  body_unannotated : {W : Type 0} (f : W → Data → Path → Tree) (b : Body W) (v : Data) → IsUnannotated (body_tree f P b v Q)
  body_unannotated f True v = result_unannotated [] []
  body_unannotated f False v = result_unannotated (described (fault FalseSchema v Q P ∷ [])) []
  body_unannotated f (Keywords ks) v = result_unannotated [] (map (λ k. f k v Q) ks.items)
  body_unannotated f (RequiredNames k) v = result_unannotated (described ((required_answers k.value).report true v Q)) []

  -- with one child more, or several
  module _ (b : Bool) (es : List Described) (ts : Trees) (own : List Described) (us : List Tree) (w : Wanted) (ws : List Wanted) (c : Tree) (cs : List Tree) (k : AreShown (w ∷ ws) (c ∷ cs)) where
    abbrev grown_tree : Tree
    grown_tree = with_children (node P Q b None es ts) (trees_wanted (w ∷ ws))

    like_grown : (d : Bool) (a : Option (List Name)) → IsLikeTree (node P Q b None es ts) (node_at P Q (shown d a own us)) → IsLikeTree grown_tree (node_at P Q (grown (c ∷ cs) (shown d a own us)))
    like_grown true a h = subst (λ x. IsLikeTree grown_tree (node_at P Q (grown (c ∷ cs) (shown true x own us)))) (sym h.3)
        (like_result P Q (b && list_all is_valid (trees_wanted (w ∷ ws))) (list_all is_valid (c ∷ cs)) None es own (behind ts (trees_wanted (w ∷ ws))) (trees_from (us ++ c ∷ cs))
        (λ i. h.2 i && all_wanted_valid (w ∷ ws) (c ∷ cs) k i) h.4 (likes_behind ts us (trees_wanted (w ∷ ws)) (c ∷ cs) h.5 (like_children (w ∷ ws) (c ∷ cs) k)))
    like_grown false a h =
        like_result P Q (b && list_all is_valid (trees_wanted (w ∷ ws))) false None es own (behind ts (trees_wanted (w ∷ ws))) (trees_from (us ++ c ∷ cs))
        (λ i. h.2 i && all_wanted_valid (w ∷ ws) (c ∷ cs) k i) h.4 (likes_behind ts us (trees_wanted (w ∷ ws)) (c ∷ cs) h.5 (like_children (w ∷ ws) (c ∷ cs) k))

  more_like : {t : Tree} → IsUnannotated t → (s : Shown) → IsLikeTree t (node_at P Q s) → (ws : List Wanted) (cs : List Tree) → AreShown ws cs → IsLikeTree (with_children t (trees_wanted ws)) (node_at P Q (grown cs s))
  more_like {t} is s h [] [] k = subst (λ r. IsLikeTree t (node_at P Q r)) (sym (no_children s)) h
  more_like is s h [] (c ∷ cs) k = absurd k
  more_like is s h (w ∷ ws) [] k = absurd k
  more_like is (shown d a own us) h (w ∷ ws) (c ∷ cs) k = subst (λ x. IsLikeTree (with_children x (trees_wanted (w ∷ ws))) (node_at P Q (grown (c ∷ cs) (shown d a own us)))) (sym is.is)
      (like_grown is.valid is.own is.below own us w ws c cs k d a (subst (λ x. IsLikeTree x (node_at P Q (shown d a own us))) is.is h))

  more_verdict : (s : Shown) {b : Bool} → is_valid (node_at P Q s) ≡ b → (ws : List Wanted) (cs : List Tree) → AreShown ws cs → is_valid (node_at P Q (grown cs s)) ≡ (b && all_wanted ws)
  more_verdict (shown d a own us) e ws cs k = valid_shown P Q (grown cs (shown d a own us)) (d && list_all is_valid cs) a own (us ++ cs) refl
      ∙ (λ i. (sym (valid_shown P Q (shown d a own us) d a own us refl) ∙ e) i && all_valid ws cs k i)

  more_shown : {t : Tree} {b : Bool} → IsUnannotated t → (s : Shown) → IsShown (t, b) (node_at P Q s) → {r : Shown} (ws : List Wanted) → ShowsMore ws s r
      → IsShown (with_children t (trees_wanted ws), b && all_wanted ws) (node_at P Q r)
  more_shown {t} {b} is s h ws k = subst (λ x. IsShown (with_children t (trees_wanted ws), b && all_wanted ws) (node_at P Q x)) (sym k.is)
      (record { like = more_like is s h.like ws k.added k.shown; verdict = more_verdict s h.verdict ws k.added k.shown })

  -- a place with what the layer doesn't read
  module _ {N M : Type 0} (t : Showings N) (m : Meanings N) (t' : Showings M) (m' : Meanings M) (u : Bool) (b : Body N) (ns : List M) (v : Data) where
    pub place_shown : (s : Shown) {r : Shown} → ShowsBody t m u b v Q s → ShowsMore (each_wanted t' m' u ns v Q) s r → IsShown (place_wanted t m t' m' u b ns P v Q) (node_at P Q r)
    place_shown s body more = shown_as (more_shown (body_unannotated (λ n. t n u) b v) s (body P) (each_wanted t' m' u ns v Q) more)
        (ap (with_children (body_tree (λ n. t n u) P b v Q)) (trees_of_list (λ n. t' n u v Q) (λ n. m' n v) u ns))
        (ap (λ x. (body_means m b v).accepts u && x) (verdict_of_list (λ n. t' n u v Q) (λ n. m' n v) u ns))
