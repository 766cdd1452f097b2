-- The tree of a document is valid exactly where the document accepts.
use Rattle.std.specs.Prelude.{◌≡◌, ⊤, ℕ, zero, suc, ◌==◌, Bool, true, false, not, ◌&&◌, ◌||◌, List, [], ◌∷◌, ◌++◌, map, Option, Some, None, option_and_then, option_to_list, cond, if◌then◌else◌}
use Rattle.std.specs.List.{flat_map, list_all}
use Rattle.std.proofs.Common.{refl, sym, subst, ◌∙◌}
use Rattle.std.proofs.lemmas.List.Folds.{list_all-map}
use Rattle.std.proofs.Math.Bool.{and-true}
use Rattle.serde_json.specs.Data.{Data, boolean, array, object, Items, no_items, item}
use Rattle.serde_json.specs.Find.{get_item, index_of, pointer, step as one_step, unescape, walk}
use Rattle.olk_spec.specs.Names.{Text, Name, Path, ◌//◌, down}
use Rattle.olk_spec.specs.World.{World}
use Rattle.olk_spec.specs.Distinct.{DistinctNames, DistinctInItems}
use Rattle.olk_spec.specs.Faults.{Leaf}
use Rattle.olk_spec.specs.Malformed.{items_list, items_of_array}
use Rattle.olk_spec.specs.Meanings.{Meaning, holds}
use Rattle.olk_spec.specs.Schemas.{Keywords, Part, Schema, listed, read_members}
use Rattle.olk_spec.specs.Tree.{Tree, Trees, trees_from, Described, is_valid, result_node, plain, erring}
use Rattle.olk_spec.specs.Trees.{keyword_child}
use Rattle.olk_spec.specs.Vocabulary.{keyword_named}
use Rattle.olk_spec.proofs.Applied.{GoodAsked}
use Rattle.olk_spec.proofs.Each.{Each, On, Each-implies, Each-map, Each-option, On-lookup_name}
use Rattle.olk_spec.proofs.Induction.{GoodPart, GoodSchema, schema_read, sound_answer}
use Rattle.olk_spec.proofs.Reading.{lookup_listed}
use Rattle.olk_spec.proofs.Tree_verdicts.{TreeAgrees, DistinctNames-members, is_valid-plain, is_valid-erring, object_row, items_distinct, members_distinct, keywords_distinct, entries_distinct_in}
use Rattle.olk_spec.proofs.Verdicts.{none_if}
use Rattle.olk_spec.proofs.Walks.{list_all-alike, list_all-flat_map}
use Rattle.olk_document_spec.specs.Keywords.{Document_keyword, prefix_items, items, contains, reference, bound, other, document_keyword, beneath, Target, Targets}
use Rattle.olk_document_spec.specs.Applied.{applied_to_items, referred, is_lacking, contains_text, document_own, document_accepts, document_child, item_trees}
use Rattle.olk_document_spec.specs.Steps.{behind, with_children, document_step, meaning_under}
use Rattle.olk_document_spec.specs.Documents.{place_named, has_percent, has_open_tilde, reference_limit, targets}
use Rattle.olk_document_spec.specs.Laws.{Verdict_of_trees}
use Rattle.olk_document_spec.proofs.Applied.{applied_to_items_good, referred_good}

-- ---- trees with children more

valid_node : (b : Bool) (P Q : Path) (a : Option (List Name)) (es : List Described) (ts : Trees) → is_valid (result_node P Q b a es ts) ≡ b
valid_node true P Q a es ts = refl
valid_node false P Q a es ts = refl

grown_valid : (b : Bool) (P Q : Path) (a : Option (List Name)) (es : List Described) (ts : Trees) (us : List Tree) → is_valid (with_children (result_node P Q b a es ts) us) ≡ (b && list_all is_valid us)
grown_valid true P Q a es ts [] = refl
grown_valid false P Q a es ts [] = refl
grown_valid true P Q a es ts (u ∷ us) = valid_node (list_all is_valid (u ∷ us)) P Q a es (behind ts (u ∷ us))
grown_valid false P Q a es ts (u ∷ us) = refl

-- ---- values

listed_distinct : (ds : Items) → DistinctInItems ds → Each DistinctNames (items_list ds)
listed_distinct no_items h = tt
listed_distinct (item d ds) h = (h.0, listed_distinct ds h.1)

items_of_distinct : (v : Data) → DistinctNames v → Each DistinctNames (items_of_array v)
items_of_distinct (array ds) h = listed_distinct ds h
items_of_distinct _ h = tt

-- ---- places that texts name

then_distinct : {X : Type 0} (f : X → Option Data) (P : X → Type 0) → ((x : X) → P x → On DistinctNames (f x)) → (o : Option X) → On P o → On DistinctNames (option_and_then f o)
then_distinct f P h None k = tt
then_distinct f P h (Some x) k = h x k

some_any : {X : Type 0} (o : Option X) → On (λ x. ⊤) o
some_any None = tt
some_any (Some x) = tt

item_distinct : (i : ℕ) (ds : Items) → DistinctInItems ds → On DistinctNames (get_item i ds)
item_distinct i no_items h = tt
item_distinct zero (item d ds) h = h.0
item_distinct (suc i) (item d ds) h = item_distinct i ds h.1

step_distinct : (part : Text) (d : Data) → DistinctNames d → On DistinctNames (one_step part d)
step_distinct part (array ds) h = then_distinct (λ i. get_item i ds) (λ i. ⊤) (λ i k. item_distinct i ds h) (index_of part) (some_any (index_of part))
step_distinct part (object ms) h = subst (On DistinctNames) (lookup_listed (unescape part) ms) (On-lookup_name DistinctNames (unescape part) (listed ms) (DistinctNames-members (object ms) h))
step_distinct part _ h = tt

walk_distinct : (part t : Text) (d : Data) → DistinctNames d → On DistinctNames (walk part t d)
unfolding walk
walk_distinct part [] d h = step_distinct part d h
walk_distinct part (x ∷ t) d h = by (x == 47) (then_distinct (walk [] t) DistinctNames (walk_distinct [] t) (one_step part d) (step_distinct part d h)) (walk_distinct (part ++ x ∷ []) t d h)
  where
    by : (b : Bool) → On DistinctNames (option_and_then (walk [] t) (one_step part d)) → On DistinctNames (walk (part ++ x ∷ []) t d)
        → On DistinctNames (if b then option_and_then (walk [] t) (one_step part d) else walk (part ++ x ∷ []) t d)
    by true ended longer = ended
    by false ended longer = longer

pointed_distinct : (t : Text) (D : Data) → DistinctNames D → On DistinctNames (pointer t D)
pointed_distinct [] D h = h
pointed_distinct (x ∷ t) D h = by (x == 47)
  where
    by : (b : Bool) → On DistinctNames (if b then walk [] t D else None)
    by true = walk_distinct [] t D h
    by false = tt

named_distinct : (D : Data) → DistinctNames D → (t : Text) → On DistinctNames (place_named D t)
named_distinct D h [] = tt
named_distinct D h (x ∷ t) = by (x == 35 && not (has_percent t || has_open_tilde t))
  where
    by : (b : Bool) → On DistinctNames (cond b (pointer t D) None)
    by true = pointed_distinct t D h
    by false = tt

-- ---- the rows

abbrev TargetAgrees : Target → Type 0
TargetAgrees t = (v : Data) (P Q : Path) → DistinctNames v → is_valid (t.meaning.tree v P Q) ≡ t.meaning.accepts v

one_valid : (t : Tree) → list_all is_valid (t ∷ []) ≡ is_valid t
one_valid t = and-true _

module _ (W : World) (u : Bool) (T : Targets) (lawful : (t : Text) → Each TargetAgrees (T t)) where
  module _ (S : Keywords Meaning) (v : Data) (dv : DistinctNames v) (P Q : Path) where
    module _ (k : Name) (p : Part Meaning) (h : GoodPart TreeAgrees p) where
      items_row : (w : Document_keyword) → list_all is_valid (plain (P // k) Q (item_trees T S k p v P Q w) ∷ []) ≡ (list_all (λ a. holds a.sub a.value) (applied_to_items T S k p v w) && true && true)
      items_row w = one_valid (plain (P // k) Q (item_trees T S k p v P Q w)) ∙ is_valid-plain (P // k) Q (item_trees T S k p v P Q w)
          ∙ rw list_all-map (list_all-alike (λ a (c : GoodAsked TreeAgrees DistinctNames a). c.0 a.value (down P a.in_schema) (down Q a.in_instance) c.1) (applied_to_items T S k p v w)
          (applied_to_items_good T S k p v TreeAgrees DistinctNames h (items_of_distinct v dv) w))
          ∙ sym (and-true _ ∙ and-true _)

      reference_row : list_all is_valid (plain (P // k) Q (map (λ t. t.meaning.tree v t.place Q) (referred T S k p v reference)) ∷ []) ≡ (list_all (λ t. t.meaning.accepts v) (referred T S k p v reference) && true)
      reference_row = one_valid (plain (P // k) Q (map (λ t. t.meaning.tree v t.place Q) (referred T S k p v reference))) ∙ is_valid-plain (P // k) Q (map (λ t. t.meaning.tree v t.place Q) (referred T S k p v reference))
          ∙ rw list_all-map (list_all-alike (λ t (c : TargetAgrees t). c v t.place Q dv) (referred T S k p v reference) (referred_good T S k p v TargetAgrees lawful reference))
          ∙ sym (and-true _)

      child_row : (w : Document_keyword) → list_all is_valid (document_child T S k p v P Q w) ≡ document_accepts T S k p v w
      child_row prefix_items = items_row prefix_items
      child_row items = items_row items
      child_row contains = one_valid (erring (P // k) Q (document_own T S k p v P Q contains)) ∙ is_valid-erring (P // k) Q (document_own T S k p v P Q contains) ∙ sym (none_if (is_lacking T S k p v) (Leaf k (contains_text v)) v (P // k) Q)
      child_row reference = reference_row
      child_row bound = refl
      child_row other = refl

    children_row : Each (λ m. GoodPart TreeAgrees m.1) S → list_all is_valid (flat_map (λ m. document_child T S m.0 m.1 v P Q (document_keyword m.0)) S) ≡ list_all (λ m. document_accepts T S m.0 m.1 v (document_keyword m.0)) S
    children_row h = rw list_all-flat_map (list_all-alike (λ m (g : GoodPart TreeAgrees m.1). child_row m.0 m.1 g (document_keyword m.0)) S h)

  -- ---- the recursion

  abbrev step : Schema Meaning → Meaning
  step = document_step W u T

  keep : (d : Data) → DistinctNames d → GoodSchema TreeAgrees (schema_read step d) → TreeAgrees d (step (schema_read step d))
  keep (boolean true) s h v P Q dv = refl
  keep (boolean false) s h v P Q dv = refl
  keep (object ms) s h v P Q dv =
      let S : Keywords Meaning = read_members step ms in
      let ts : List Tree = flat_map (λ m. keyword_child (beneath W) u S v P Q m.0 m.1 (keyword_named (beneath W) m.0)) S in
      let layer = sym (is_valid-plain P Q ts) ∙ object_row (beneath W) u S h (keywords_distinct step ms s) (entries_distinct_in step ms s.1) v dv P Q in
      grown_valid (list_all is_valid ts) P Q None [] (trees_from ts) (flat_map (λ m. document_child T S m.0 m.1 v P Q (document_keyword m.0)) S)
      ∙ (λ i. layer i && children_row S v dv P Q h i)
  keep _ s h v P Q dv = refl

  tree_under : (d : Data) → DistinctNames d → TreeAgrees d (meaning_under W u T d)
  unfolding meaning_under
  tree_under d s = sound_answer TreeAgrees DistinctNames items_distinct (λ ms h. members_distinct ms h.1) (document_step W u T) keep d s

lawful_targets : (W : World) (u : Bool) (D : Data) → DistinctNames D → (n : ℕ) (t : Text) → Each TargetAgrees (targets W u D n t)
unfolding targets
lawful_targets W u D s zero t = tt
lawful_targets W u D s (suc n) t = Each-map TargetAgrees _ (option_to_list (place_named D t))
    (Each-implies DistinctNames (λ d. TreeAgrees d (meaning_under W u (targets W u D n) d)) (tree_under W u (targets W u D n) (lawful_targets W u D s n)) (option_to_list (place_named D t)) (Each-option DistinctNames (place_named D t) (named_distinct D s t)))

pub verdict_of_trees : Verdict_of_trees
verdict_of_trees W u D v P Q s dv = tree_under W u (targets W u D reference_limit) (lawful_targets W u D s reference_limit) D s v P Q dv
