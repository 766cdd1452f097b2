-- `if` beside what it asks.
use Rattle.std.proofs.Common.{◌≡◌, Bool, true, false, cond, ◌&&◌, List, [], ◌∷◌, sym, ap, ◌∙◌}
use Rattle.std.proofs.Math.Bool.{and-true}
use Rattle.serde_json.specs.Data.{Data}
use Rattle.olk_spec.specs.Names.{Path}
use Rattle.olk_spec.specs.Tree.{Tree}
use Rattle.olk_reports.specs.Evaluations.{Shown, nothing_shown, node_at}
use Rattle.olk_tree.specs.Questions.{Question}
use Rattle.olk_tree.specs.Shown.{if_tree}
use Rattle.olk_evaluate.specs.Wanted.{IsShown, ShowsMore, wanted, each_wanted}
use Rattle.olk_evaluate.proofs.Children.{ShowsEach, shown_as, shows_nothing, shows_each}

module _ {N : Type 0} (t : N → Bool → Data → Path → Tree) (m : N → Data → Question) (v : Data) (P Q : Path) (n : N) (o s : Shown) (none : o ≡ nothing_shown) (u : Bool) where
  abbrev accepts : N → Bool
  accepts k = (m k v).accepts u

  abbrev tree_if : List N → List N → Bool → Tree
  tree_if thens elses c = if_tree (λ k. t k u) v Q c P n thens elses

  -- `if` has been asked, and accepts or not
  abbrev pub Fits : List N → List N → Bool → Bool → Type 0
  Fits thens elses x y = IsShown (tree_if thens elses (accepts n), cond (accepts n) x y) (node_at P Q s)

  before : (ns : List N) → ShowsMore (each_wanted t m u ns v Q) o s → ShowsEach t m u v Q ns s
  before ns shows = shows_each t m u v Q ns none shows

  pub both_fit : (k : N) (elses : List N) (y : Bool) → true ≡ accepts n → ShowsMore (each_wanted t m u (n ∷ k ∷ []) v Q) o s → Fits (k ∷ []) elses (accepts k) y
  both_fit k elses y e shows = shown_as (before (n ∷ k ∷ []) shows P)
      (ap (tree_if (k ∷ []) elses) e) ((λ i. sym e i && and-true (accepts k) i) ∙ ap (λ c. cond c (accepts k) y) e)

  pub first_fits : (elses : List N) (y : Bool) → true ≡ accepts n → ShowsMore (wanted t m u n v Q ∷ []) o s → Fits [] elses true y
  first_fits elses y e shows = shown_as (before (n ∷ []) shows P) (ap (tree_if [] elses) e) (and-true (accepts n) ∙ sym e ∙ ap (λ c. cond c true y) e)

  pub second_fits : (k : N) (thens : List N) (x : Bool) → false ≡ accepts n → ShowsMore (wanted t m u k v Q ∷ []) o s → Fits thens (k ∷ []) x (accepts k)
  second_fits k thens x e shows = shown_as (before (k ∷ []) shows P) (ap (tree_if thens (k ∷ [])) e) (and-true (accepts k) ∙ ap (λ c. cond c x (accepts k)) e)

  pub none_fits : (thens : List N) (x : Bool) → false ≡ accepts n → s ≡ nothing_shown → Fits thens [] x true
  none_fits thens x e h = shows_nothing P Q h (sym (ap (tree_if thens []) e)) (sym (ap (λ c. cond c x true) e))
