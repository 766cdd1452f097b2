-- Branches of which one is to accept.
use Rattle.std.proofs.Common.{◌≡◌, ℕ, ◌<◌, ◌≤◌, ◌==◌, nat_lt, length, arith, Bool, true, false, cond, List, [], ◌∷◌, None, refl, sym, ap, ◌∙◌}
use Rattle.std.specs.List.{list_all}
use Rattle.std.proofs.Math.Bool.{and-true}
use Rattle.serde_json.specs.Data.{Data}
use Rattle.olk_spec.specs.Names.{Path, filter_once, put_if}
use Rattle.olk_spec.specs.Tree.{Tree, is_valid, plain, result}
use Rattle.olk_reports.specs.Evaluations.{Shown, shown, nothing_shown, errored, node_at}
use Rattle.olk_tree.specs.Questions.{Question, how_many}
use Rattle.olk_tree.specs.Shown.{branch_trees, several_accept, any_of_tree, one_of_tree}
use Rattle.olk_tree.proofs.OneOf.{several_is_some, several_is_not_one, several_is_more, count_those}
use Rattle.olk_evaluate.specs.Wanted.{AreShown, ShowsAccepting, ShowsMore, ShowsThese, wanted, each_wanted, IsShown}
use Rattle.olk_evaluate.proofs.Children.{all_valid, shown_as, result_shown, plain_shown, branches_wanted, from_nothing}
use Rattle.olk_evaluate.proofs.Branches.{accepts_here, acceptors_pass}

module _ {N : Type 0} (t : N → Bool → Data → Path → Tree) (m : N → Data → Question) (u : Bool) (v : Data) (P Q : Path) where
  as_long : (ns : List N) (cs : List Tree) → AreShown (each_wanted t m u ns v Q) cs → length ns ≡ length cs
  as_long [] [] h = refl
  as_long [] (c ∷ cs) h = absurd h
  as_long (n ∷ ns) [] h = absurd h
  as_long (n ∷ ns) (c ∷ cs) h = let same = as_long ns cs h.1 in omega arith

  -- the nodes of those that accept are children
  module _ (ns : List N) (cs : List Tree) (h : AreShown (each_wanted t m u (filter_once (accepts_here t m u v P Q) ns) v Q) cs) where
    abbrev acceptors : List N
    acceptors = filter_once (accepts_here t m u v P Q) ns

    -- where n branches accept
    abbrev tree_of_count : ℕ → Tree
    tree_of_count n = cond (n == 0)
        (result P Q None true [] (branch_trees (λ k. t k u) v Q ns))
        (result P Q None false (put_if (nat_lt 1 n) several_accept []) (branch_trees (λ k. t k u) v Q acceptors))

    abbrev Fits : Shown → Type 0
    Fits s = IsShown (one_of_tree (λ k. t k u) v Q (accepts_here t m u v P Q) P ns, how_many (λ k. m k v) u ns == 1) (node_at P Q s)

    count_shown : how_many (λ k. m k v) u ns ≡ length cs
    count_shown = count_those (accepts_here t m u v P Q) ns ∙ as_long acceptors cs h

    several_shown : 1 < length cs → tree_of_count (how_many (λ k. m k v) u ns) ≡ result P Q None false (several_accept ∷ []) (branch_trees (λ k. t k u) v Q acceptors)
    several_shown more = ap tree_of_count count_shown ∙ (λ i. cond (several_is_some (length cs) more i)
        (result P Q None true [] (branch_trees (λ k. t k u) v Q ns))
        (result P Q None false (put_if (several_is_more (length cs) more i) several_accept []) (branch_trees (λ k. t k u) v Q acceptors)))

    module _ {s : Shown} where
      -- where one accepts
      pub one_accepting : length cs ≡ 1 → s ≡ shown (list_all is_valid cs) None [] cs → Fits s
      one_accepting one e = shown_as (plain_shown P Q (each_wanted t m u acceptors v Q) h e)
          (ap (plain P Q) (branches_wanted t m u v Q acceptors) ∙ sym (ap tree_of_count (count_shown ∙ one)))
          (acceptors_pass t m u v P Q ns ∙ sym (ap (λ n. n == 1) (count_shown ∙ one)))

      -- where several accept
      pub several_accepting : 1 < length cs → s ≡ shown false None (several_accept ∷ []) cs → Fits s
      several_accepting more e = shown_as (result_shown P Q None false (several_accept ∷ []) (several_accept ∷ []) (each_wanted t m u acceptors v Q) cs e (refl, (λ q. refl), tt) h)
          (ap (result P Q None false (several_accept ∷ [])) (branches_wanted t m u v Q acceptors) ∙ sym (several_shown more))
          (sym (ap (λ n. n == 1) count_shown ∙ several_is_not_one (length cs) more))

      -- where none accepts, and all are shown
      pub none_accepting : (all : List Tree) → length cs ≡ 0 → AreShown (each_wanted t m u ns v Q) all → s ≡ shown false None [] all → Fits s
      none_accepting all none each e = shown_as (result_shown P Q None true [] [] (each_wanted t m u ns v Q) all e tt each)
          (ap (result P Q None true []) (branches_wanted t m u v Q ns) ∙ sym (ap tree_of_count (count_shown ∙ none)))
          (sym (ap (λ n. n == 1) (count_shown ∙ none)))

  module _ (ns : List N) {count : ℕ} {s : Shown} (h : ShowsAccepting t m u ns v Q count s) where
    abbrev OneFits : Shown → Type 0
    OneFits r = IsShown (one_of_tree (λ k. t k u) v Q (accepts_here t m u v P Q) P ns, how_many (λ k. m k v) u ns == 1) (node_at P Q r)

    pub none_or_one : count < 2 → OneFits s
    none_or_one few = by h.accepting h.those h.number h.shown
      where
        by : (cs : List Tree) → AreShown (each_wanted t m u (filter_once (accepts_here t m u v P Q) ns) v Q) cs → count ≡ length cs → ShowsThese (each_wanted t m u ns v Q) cs s → OneFits s
        by [] those n all = none_accepting ns [] those all.children refl all.shown all.is
        by (c ∷ []) those n is = one_accepting ns (c ∷ []) those refl is
        by (c ∷ d ∷ cs) those n is = absurd (omega arith)

    pub two_or_more : {r : Shown} → 2 ≤ count → r ≡ errored several_accept s → OneFits r
    two_or_more {r} many told = by h.accepting h.those h.number h.shown
      where
        by : (cs : List Tree) → AreShown (each_wanted t m u (filter_once (accepts_here t m u v P Q) ns) v Q) cs → count ≡ length cs → ShowsThese (each_wanted t m u ns v Q) cs s → OneFits r
        by [] those n all = absurd (omega arith)
        by (c ∷ []) those n is = absurd (omega arith)
        by (c ∷ d ∷ cs) those n is = several_accepting ns (c ∷ d ∷ cs) those (omega arith) (told ∙ ap (errored several_accept) is)

-- one branch alone
module _ {N : Type 0} (t : N → Bool → Data → Path → Tree) (m : N → Data → Question) (u : Bool) (v : Data) (P Q : Path) (n : N) {o s : Shown}
    (none : o ≡ nothing_shown) (h : ShowsMore (wanted t m u n v Q ∷ []) o s) where
  single_shown : (tree : Bool → Tree) → tree true ≡ plain P Q (t n u v Q ∷ []) → tree false ≡ result P Q None true [] (t n u v Q ∷ [])
      → IsShown (tree ((m n v).accepts u), (m n v).accepts u) (node_at P Q s)
  single_shown tree accepted refused = by ((m n v).accepts u) refl
    where
      by : (b : Bool) → (m n v).accepts u ≡ b → IsShown (tree b, b) (node_at P Q s)
      by true accepts = shown_as (plain_shown P Q (wanted t m u n v Q ∷ []) h.shown (from_nothing none h)) (sym accepted) (and-true ((m n v).accepts u) ∙ accepts)
      by false refuses = shown_as (result_shown P Q None true [] [] (wanted t m u n v Q ∷ []) h.added
          (from_nothing none h ∙ ap (λ b. shown b None [] h.added) (all_valid (wanted t m u n v Q ∷ []) h.added h.shown ∙ and-true ((m n v).accepts u) ∙ refuses)) tt h.shown) (sym refused) refl

  pub one_of_shown : IsShown (one_of_tree (λ k. t k u) v Q (λ k. (m k v).accepts u) P (n ∷ []), (m n v).accepts u) (node_at P Q s)
  one_of_shown = single_shown (λ b. one_of_tree (λ k. t k u) v Q (λ k. b) P (n ∷ [])) refl refl

  pub any_of_shown : IsShown (any_of_tree (λ k. t k u) v Q (λ k. (m k v).accepts u) P (n ∷ []), (m n v).accepts u) (node_at P Q s)
  any_of_shown = single_shown (λ b. any_of_tree (λ k. t k u) v Q (λ k. b) P (n ∷ [])) refl refl
