-- Branches that accept, and those that refuse.
use Rattle.std.proofs.lemmas.List.{length-map}
use Rattle.std.proofs.Common.{◌≡◌, ℕ, arith, length, map, Bool, true, false, not, cond, ◌||◌, List, [], ◌∷◌, None, refl, sym, ap, ◌∙◌, ◌&&◌}
use Rattle.serde_json.specs.Data.{Data}
use Rattle.olk_spec.specs.Names.{Path, filter_once, put_if, is_empty}
use Rattle.olk_spec.specs.Tree.{Tree, is_valid, plain, result}
use Rattle.std.specs.List.{list_all}
use Rattle.olk_reports.specs.Evaluations.{Shown, shown, shown_children, nothing_shown, called_invalid, node_at, tree_of}
use Rattle.olk_reports.specs.declared.evaluation.EvaluationNode.{EvaluationNode}
use Rattle.olk_tree.specs.Questions.{Question, some}
use Rattle.olk_tree.specs.Shown.{branch_trees, any_of_tree}
use Rattle.olk_evaluate.specs.Wanted.{AreShown, IsShown, ShowsAccepting, ShowsMore, ShowsThese, each_wanted}
use Rattle.olk_evaluate.proofs.Children.{all_wanted, shown_as, result_shown, plain_shown, branches_wanted, from_nothing}

-- how many nodes stand below a result
pub counted : (ns : List EvaluationNode) {ts : List Tree} {count : ℕ} → map tree_of ns ≡ ts → count ≡ length ns → count ≡ length ts
counted ns below len = len ∙ sym (length-map ns tree_of) ∙ ap length below

module _ {N : Type 0} (t : N → Bool → Data → Path → Tree) (m : N → Data → Question) (u : Bool) (v : Data) (P Q : Path) where
  abbrev pub accepts_here : N → Bool
  accepts_here n = (m n v).accepts u

  as_many : (ns : List N) (cs : List Tree) → AreShown (each_wanted t m u ns v Q) cs → is_empty cs ≡ is_empty ns
  as_many [] [] h = refl
  as_many [] (c ∷ cs) h = absurd h
  as_many (n ∷ ns) [] h = absurd h
  as_many (n ∷ ns) (c ∷ cs) h = refl

  pass_first : (n : N) (ns : List N) (b : Bool) → accepts_here n ≡ b → all_wanted (each_wanted t m u ns v Q) ≡ true → all_wanted (each_wanted t m u (put_if b n ns) v Q) ≡ true
  pass_first n ns true e rest = λ i. e i && rest i
  pass_first n ns false e rest = rest

  pub acceptors_pass : (ns : List N) → all_wanted (each_wanted t m u (filter_once accepts_here ns) v Q) ≡ true
  acceptors_pass [] = refl
  acceptors_pass (n ∷ ns) = pass_first n (filter_once accepts_here ns) (accepts_here n) refl (acceptors_pass ns)

  some_first : (n : N) (ms : List N) (b : Bool) → (some (λ k. m k v) ms).accepts u ≡ not (is_empty (filter_once accepts_here ms))
      → (b || (some (λ k. m k v) ms).accepts u) ≡ not (is_empty (put_if b n (filter_once accepts_here ms)))
  some_first n ms true rest = refl
  some_first n ms false rest = rest

  some_accepts : (ms : List N) → (some (λ n. m n v) ms).accepts u ≡ not (is_empty (filter_once accepts_here ms))
  some_accepts [] = refl
  some_accepts (n ∷ ms) = some_first n ms (accepts_here n) (some_accepts ms)

  -- a result that showed nothing shows those that accept, which are so many
  module _ (ns : List N) {o : Shown} (none : o ≡ nothing_shown) (l : Shown) (h : ShowsMore (each_wanted t m u (filter_once accepts_here ns) v Q) o l)
      {count : ℕ} (len : count ≡ length (shown_children l)) where
    as_counted : count ≡ length h.added
    as_counted = len ∙ ap (λ s. length (shown_children s)) (from_nothing none h)

    pub accepting_alone : (count ≡ 0 → ⊥) → ShowsAccepting t m u ns v Q count l
    accepting_alone some = record { accepting = h.added; those = h.shown; number = as_counted; shown = by h.added as_counted (from_nothing none h) }
      where
        by : (cs : List Tree) → count ≡ length cs → l ≡ shown (list_all is_valid cs) None [] cs → ShowsThese (each_wanted t m u ns v Q) cs l
        by [] number is = absurd (some number)
        by (c ∷ cs) number is = is

    -- where there is none, and then shows all, refused
    pub all_refused : {s r : Shown} → count ≡ 0 → ShowsMore (each_wanted t m u ns v Q) l s → r ≡ called_invalid s → ShowsAccepting t m u ns v Q count r
    all_refused {s} {r} zero all is = record { accepting = h.added; those = h.shown; number = as_counted; shown = by h.added as_counted (from_nothing none h) }
      where
        by : (cs : List Tree) → count ≡ length cs → l ≡ shown (list_all is_valid cs) None [] cs → ShowsThese (each_wanted t m u ns v Q) cs r
        by [] number nothing = record { children = all.added; is = is ∙ ap called_invalid (from_nothing nothing all); shown = all.shown }
        by (c ∷ cs) number some = absurd (omega arith)

  -- the nodes of those that accept are children
  module _ (ns : List N) (cs : List Tree) (h : AreShown (each_wanted t m u (filter_once accepts_here ns) v Q) cs) where
    abbrev acceptors : List N
    acceptors = filter_once accepts_here ns

    abbrev tree_if : Bool → Tree
    tree_if none = cond none (result P Q None true [] (branch_trees (λ n. t n u) v Q ns)) (plain P Q (branch_trees (λ n. t n u) v Q acceptors))

    -- where one accepts
    pub accepting_shown : {s : Shown} → false ≡ is_empty cs → s ≡ shown (list_all is_valid cs) None [] cs
        → IsShown (any_of_tree (λ n. t n u) v Q accepts_here P ns, (some (λ n. m n v) ns).accepts u) (node_at P Q s)
    accepting_shown some e = shown_as (plain_shown P Q (each_wanted t m u acceptors v Q) h e)
        (ap (plain P Q) (branches_wanted t m u v Q acceptors) ∙ ap tree_if (some ∙ as_many acceptors cs h))
        (acceptors_pass ns ∙ ap not (some ∙ as_many acceptors cs h) ∙ sym (some_accepts ns))

    -- where none accepts, and all are shown
    pub refusing_shown : {s : Shown} (all : List Tree) → true ≡ is_empty cs → AreShown (each_wanted t m u ns v Q) all → s ≡ shown false None [] all
        → IsShown (any_of_tree (λ n. t n u) v Q accepts_here P ns, (some (λ n. m n v) ns).accepts u) (node_at P Q s)
    refusing_shown all none each e = shown_as (result_shown P Q None true [] [] (each_wanted t m u ns v Q) all e tt each)
        (ap (result P Q None true []) (branches_wanted t m u v Q ns) ∙ ap tree_if (none ∙ as_many acceptors cs h))
        (ap not (none ∙ as_many acceptors cs h) ∙ sym (some_accepts ns))

  module _ (ns : List N) {s : Shown} where
    pub any_shown : {count : ℕ} → ShowsAccepting t m u ns v Q count s → IsShown (any_of_tree (λ n. t n u) v Q accepts_here P ns, (some (λ n. m n v) ns).accepts u) (node_at P Q s)
    any_shown h = by h.accepting h.those h.shown
      where
        by : (cs : List Tree) → AreShown (each_wanted t m u (filter_once accepts_here ns) v Q) cs → ShowsThese (each_wanted t m u ns v Q) cs s
            → IsShown (any_of_tree (λ n. t n u) v Q accepts_here P ns, (some (λ n. m n v) ns).accepts u) (node_at P Q s)
        by [] those all = refusing_shown ns [] those all.children refl all.shown all.is
        by (c ∷ cs) those is = accepting_shown ns (c ∷ cs) those refl is
