-- Items under their positions, and the same items without them.
use Rattle.std.proofs.Common.{◌≡◌, ℕ, zero, suc, ◌+◌, true, List, [], ◌∷◌, drop, map, refl, ap, sym, ◌∙◌, decimal, arith}
use Rattle.std.specs.List.{enumerate_from, zip}
use Rattle.std.specs.Prelude.{Option, Some, None, is_some}
use Rattle.serde_json.specs.Data.{Data, null, boolean, number, string, array, object, Items}
use Rattle.serde_json.specs.Find.{as_array}
use Rattle.olk_spec.specs.Malformed.{items_list, items_of_array}
use Rattle.serde_json.specs.View.{view, items_view}
use Rattle.olk_spec.proofs.Maps.{items_list-view}
use Rattle.olk_document_spec.specs.Applied.{items_from}
use Rattle.serde_json.specs.declared.value.Value.{Value}
use Rattle.olk_spec.specs.Names.{Name}
use Rattle.olk_spec.specs.Schemas.{numbered, is_array}
use Rattle.olk_tree.specs.Questions.{Question, always, both, every}

abbrev under : ℕ → List Data → List (Name × Data)
under i ds = map (λ e. (decimal e.0, e.1)) (enumerate_from i ds)

module _ (f : Data → Question) where
  every_under : (n i : ℕ) (ds : List Data) → every (λ e. f e.1) (drop n (under i ds)) ≡ every f (drop n ds)
  every_under zero i [] = refl
  every_under zero i (d ∷ ds) = ap (both (f d)) (every_under zero (i + 1) ds)
  every_under (suc n) i [] = refl
  every_under (suc n) i (d ∷ ds) = every_under n (i + 1) ds

  every_viewed : (n : ℕ) (vs : List Value) → every f (drop n (map view vs)) ≡ every (λ x. f (view x)) (drop n vs)
  every_viewed zero [] = refl
  every_viewed zero (v ∷ vs) = ap (both (f (view v))) (every_viewed zero vs)
  every_viewed (suc n) [] = refl
  every_viewed (suc n) (v ∷ vs) = every_viewed n vs

  pub every_numbered : (n : ℕ) (vs : List Value) → every (λ e. f e.1) (drop n (numbered (map view vs))) ≡ every (λ x. f (view x)) (drop n vs)
  every_numbered n vs = every_under n 0 (map view vs) ∙ every_viewed n vs

-- ---- what is left of items under their positions

drop_under : (i k : ℕ) (vs : List Value) → drop i (under k (map view vs)) ≡ under (k + i) (map view (drop i vs))
drop_under zero k [] = refl
drop_under zero k (v ∷ vs) = let e : k ≡ k + 0 = omega arith in ap (λ n. under n (map view (v ∷ vs))) e
drop_under (suc i) k [] = refl
drop_under (suc i) k (v ∷ vs) = let e : (k + 1) + i ≡ k + suc i = omega arith in drop_under i (k + 1) vs ∙ ap (λ n. under n (map view (drop i vs))) e

from_first : (i : ℕ) (vs : List Value) → drop i (numbered (map view vs)) ≡ under i (map view (drop i vs))
from_first i vs = let e : 0 + i ≡ i = omega arith in drop_under i 0 vs ∙ ap (λ n. under n (map view (drop i vs))) e

pub numbered_next : (i : ℕ) (vs : List Value) {x : Value} → drop i vs ≡ x ∷ drop (i + 1) vs
    → drop i (numbered (map view vs)) ≡ (decimal i, view x) ∷ drop (i + 1) (numbered (map view vs))
numbered_next i vs {x} e =
    from_first i vs ∙ ap (λ l. under i (map view l)) e ∙ ap (λ l. (decimal i, view x) ∷ l) (sym (from_first (i + 1) vs))

pub numbered_end : (i : ℕ) (vs : List Value) → drop i vs ≡ [] → drop i (numbered (map view vs)) ≡ []
numbered_end i vs e = from_first i vs ∙ ap (λ l. under i (map view l)) e

-- ---- the items of a value

abbrev pub listed_by : Option Items → List Data
listed_by None = []
listed_by (Some ds) = items_list ds

pub by_array : (v : Data) → items_of_array v ≡ listed_by (as_array v)
by_array null = refl
by_array (boolean b) = refl
by_array (number n) = refl
by_array (string s) = refl
by_array (array ds) = refl
by_array (object ms) = refl

pub none_left : (n : ℕ) (ds : List Data) → ds ≡ [] → drop n (numbered ds) ≡ []
none_left zero ds e = ap numbered e
none_left (suc n) ds e = ap (λ l. drop (suc n) (numbered l)) e

pub is_array_by : (v : Data) → is_array v ≡ is_some (as_array v)
is_array_by null = refl
is_array_by (boolean b) = refl
is_array_by (number n) = refl
is_array_by (string s) = refl
is_array_by (array ds) = refl
is_array_by (object ms) = refl

module _ (v : Data) where
  pub listed_as : (vs : List Value) → Some (items_view vs) ≡ as_array v → items_of_array v ≡ map view vs
  listed_as vs e = by_array v ∙ ap listed_by (sym e) ∙ items_list-view vs

  pub nothing_listed : None ≡ as_array v → items_of_array v ≡ []
  nothing_listed e = by_array v ∙ ap listed_by (sym e)

-- ---- items beside the schemas that are asked about them

module _ {N : Type 0} (f : N → Data → Question) where
  abbrev of_pair : N × (Name × Data) → Question
  of_pair e = f e.0 e.1.1

  abbrev of_item : N × Value → Question
  of_item e = f e.0 (view e.1)

  pairs_under : (i : ℕ) (ns : List N) (vs : List Value) → every of_pair (zip ns (under i (map view vs))) ≡ every of_item (zip ns vs)
  pairs_under i [] vs = refl
  pairs_under i (n ∷ ns) [] = refl
  pairs_under i (n ∷ ns) (v ∷ vs) = ap (both (f n (view v))) (pairs_under (i + 1) ns vs)

  pub every_pair : (ns : List N) (vs : List Value) → every of_pair (zip ns (drop 0 (numbered (map view vs)))) ≡ every of_item (zip ns vs)
  every_pair ns vs = pairs_under 0 ns vs

  no_pairs : (ns : List N) → every of_pair (zip ns []) ≡ always true
  no_pairs [] = refl
  no_pairs (n ∷ ns) = refl

  module _ (ns : List N) (v : Data) where
    pub pairs_of_array : (vs : List Value) → Some (items_view vs) ≡ as_array v → every of_item (zip ns vs) ≡ every of_pair (zip ns (items_from 0 v))
    pairs_of_array vs e = sym (ap (λ ds. every of_pair (zip ns (drop 0 (numbered ds)))) (listed_as v vs e) ∙ every_pair ns vs)

    pub pairs_of_another : None ≡ as_array v → always true ≡ every of_pair (zip ns (items_from 0 v))
    pairs_of_another e = sym (ap (λ ds. every of_pair (zip ns (drop 0 (numbered ds)))) (nothing_listed v e) ∙ no_pairs ns)

module _ (f : Data → Question) (n : ℕ) (v : Data) where
  pub items_of_list : (vs : List Value) → Some (items_view vs) ≡ as_array v → every (λ x. f (view x)) (drop n vs) ≡ every (λ e. f e.1) (items_from n v)
  items_of_list vs e = sym (ap (λ ds. every (λ e. f e.1) (drop n (numbered ds))) (listed_as v vs e) ∙ every_numbered f n vs)

  pub items_of_another : None ≡ as_array v → always true ≡ every (λ e. f e.1) (items_from n v)
  items_of_another e = sym (ap (every (λ e. f e.1)) (none_left n (items_of_array v) (nothing_listed v e)))
