-- What the keywords of a document ask, and about what.
use Rattle.std.specs.Prelude.{ℕ, zero, suc, ◌+◌, List, [], ◌∷◌, map, drop, decimal}
use Rattle.std.specs.List.{enumerate_from, zip}
use Rattle.serde_json.specs.Data.{Data}
use Rattle.olk_spec.specs.Names.{Text, Name}
use Rattle.olk_spec.specs.Malformed.{items_of_array}
use Rattle.olk_spec.specs.Meanings.{Meaning, Subschema, asked}
use Rattle.olk_spec.specs.Schemas.{Keywords, Part, branches, as_text}
use Rattle.olk_spec.proofs.Applied.{GoodAsked}
use Rattle.olk_spec.proofs.Each.{Each, Each-any, Each-flat_map, Each-implies, Each-map}
use Rattle.olk_spec.proofs.Induction.{GoodEntry, GoodPart, branches_good}
use Rattle.olk_document_spec.specs.Applied.{applied_to_items, items_from, prefix_length, referred}
use Rattle.olk_document_spec.specs.Keywords.{Document_keyword, prefix_items, items, reference, Target, Targets}

module _ {X : Type 0} (P : X → Type 0) where
  Each-drop : (n : ℕ) (xs : List X) → Each P xs → Each P (drop n xs)
  Each-drop zero xs h = h
  Each-drop (suc n) [] h = tt
  Each-drop (suc n) (x ∷ xs) h = Each-drop n xs h.1

module _ (Fine : Data → Type 0) where
  numbered_fine : (i : ℕ) (ds : List Data) → Each Fine ds → Each (λ (e : Name × Data). Fine e.1) (map (λ e. (decimal e.0, e.1)) (enumerate_from i ds))
  numbered_fine i [] f = tt
  numbered_fine i (d ∷ ds) f = (f.0, numbered_fine (i + 1) ds f.1)

  items_fine : (n : ℕ) (v : Data) → Each Fine (items_of_array v) → Each (λ e. Fine e.1) (items_from n v)
  items_fine n v f = Each-drop (λ e. Fine e.1) n _ (numbered_fine 0 (items_of_array v) f)

module _ (T : Targets) (S : Keywords Meaning) (k : Name) (p : Part Meaning) (v : Data) where
  -- Good: a fact of a place's data and its answer; Fine: a fact of each item of the value
  module _ (Good : Data → Meaning → Type 0) (Fine : Data → Type 0) (h : GoodPart Good p) (fines : Each Fine (items_of_array v)) where
    abbrev AllGood : List (Name × Data) → Type 0
    AllGood is = Each (λ e. Fine e.1) is

    pairs_good : (bs : List (Name × Subschema)) (is : List (Name × Data)) → Each (GoodEntry Good) bs → AllGood is → Each (GoodAsked Good Fine) (map (λ e. asked e.0.1 e.1.1 (k ∷ e.0.0 ∷ []) (e.1.0 ∷ [])) (zip bs is))
    pairs_good [] is g f = tt
    pairs_good (b ∷ bs) [] g f = tt
    pairs_good (b ∷ bs) (i ∷ is) g f = ((g.0, f.0), pairs_good bs is g.1 f.1)

    items_good : (is : List (Name × Data)) → AllGood is → Each (GoodAsked Good Fine) (map (λ e. asked p.whole e.1 (k ∷ []) (e.0 ∷ [])) is)
    items_good is f = Each-map (GoodAsked Good Fine) (λ e. asked p.whole e.1 (k ∷ []) (e.0 ∷ [])) is (Each-implies (λ e. Fine e.1) (λ e. GoodAsked Good Fine (asked p.whole e.1 (k ∷ []) (e.0 ∷ []))) (λ e c. (h.0, c)) is f)

    pub applied_to_items_good : (w : Document_keyword) → Each (GoodAsked Good Fine) (applied_to_items T S k p v w)
    applied_to_items_good prefix_items = pairs_good (branches p) (items_from 0 v) (branches_good Good p h) (items_fine Fine 0 v fines)
    applied_to_items_good items = items_good (items_from (prefix_length S) v) (items_fine Fine (prefix_length S) v fines)
    applied_to_items_good _ = tt

  pub referred_good : (Good : Target → Type 0) → ((t : Text) → Each Good (T t)) → (w : Document_keyword) → Each Good (referred T S k p v w)
  referred_good Good lawful reference = Each-flat_map Good T (as_text p.whole.schema) (Each-any (λ t. Each Good (T t)) lawful (as_text p.whole.schema))
  referred_good Good lawful _ = tt
