-- `dependentRequired`, `dependentSchemas` and `dependencies`, over the raw data of their values.
use Rattle.std.proofs.Common.{◌≡◌, ℕ, ◌+◌, Bool, true, false, not, cond, ◌&&◌, List, [], ◌∷◌, ◌++◌, map, sum_by, codes, refl, sym, ◌∙◌, ap, subst, append_assoc, subst₂}
use Rattle.std.specs.List.{list_all, flat_map}
use Rattle.std.proofs.Math.Bool.{and-false, and-true}
use Rattle.serde_json.specs.Data.{Data, Members}
use Rattle.olk_spec.specs.Names.{Name, Path, ◌//◌, is_empty, filter_once, put_if}
use Rattle.olk_spec.specs.Vocabulary.{dependent_required, dependent_schemas, dependencies}
use Rattle.olk_spec.specs.Faults.{Fault, ◌∼◌, like_empty, like_through}
use Rattle.olk_spec.specs.Schemas.{Schema, Keywords, read, read_members, members, has, texts, is_array}
use Rattle.olk_spec.specs.Meanings.{applied, asked}
use Rattle.olk_spec.specs.Accepts.{missing, due}
use Rattle.olk_spec.specs.Tree.{plain, erring}
use Rattle.olk_spec.specs.Malformed.{each, own_refusals, read_places, unless_object, not_a_text, name_list_refusals}
use Rattle.olk_spec.proofs.Truth.{and_first, and_second}
use Rattle.olk_spec.proofs.Order.{∼_same, ∼_sym, ∼_before, ∼_behind, ∼_swap}
use Rattle.olk_spec.proofs.Maps.{flat_map-map, map-map, filter_once-map}
use Rattle.olk_spec.proofs.Reading.{entry, place, entries_read, schema_of_read}
use Rattle.olk_meaning.specs.Told.{IsKeywordTold, entries_told, schema_answers}
use Rattle.olk_meaning.specs.Dependencies.{due_entries, list_entries, schema_entries, are_lists, list_answers, dependency_answers}
use Rattle.olk_meaning.proofs.Facts.{accepts_it, asks_it, finds_it, sum_by-map, nothing_first, nothing_last, sum_of_none, told_by_entries, asked_entries}
use Rattle.olk_meaning.proofs.Rows.{Rows}
use Rattle.std.proofs.{lemmas.List.Folds.list_all-map, lemmas.List.Sums.sum_by-cons}
use Rattle.olk_spec.specs.{World.World, Reports.required_faults}
use Rattle.olk_meaning.specs.Steps.{Steps, accepts, asks, report, meaning}

-- ---- those of a list, in two parts

module _ {X : Type 0} (h a : X → Bool) where
  filter_once-filter_once : (xs : List X) → filter_once h (filter_once a xs) ≡ filter_once (λ x. h x && a x) xs
  filter_once-filter_once [] = refl
  filter_once-filter_once (x ∷ xs) = by (a x) (filter_once-filter_once xs)
    where
      by : (b : Bool) → filter_once h (filter_once a xs) ≡ filter_once (λ y. h y && a y) xs → filter_once h (put_if b x (filter_once a xs)) ≡ put_if (h x && b) x (filter_once (λ y. h y && a y) xs)
      by true e = λ i. put_if (sym (and-true (h x)) i) x (e i)
      by false e = e ∙ ap (λ b. put_if b x (filter_once (λ y. h y && a y) xs)) (sym (and-false _))

module _ {X : Type 0} (a : X → Bool) where
  pub all_those : (xs : List X) → list_all a xs ≡ true → filter_once a xs ≡ xs
  all_those [] e = refl
  all_those (x ∷ xs) e = λ i. put_if (and_first (a x) (list_all a xs) e i) x (all_those xs (and_second (a x) (list_all a xs) e) i)

and_between : (a b c d : Bool) → (a && c) ≡ d → (a && (b && c)) ≡ (b && d)
and_between true b c d e = ap (λ x. b && x) e
and_between false true c d e = e
and_between false false c d e = refl

and_around : (a b c d : Bool) → (b && c) ≡ d → ((a && b) && c) ≡ (a && d)
and_around true b c d e = e
and_around false b c d e = refl

-- each answers by its part
module _ {X : Type 0} (h a : X → Bool) where
  abbrev unlike : List X → List X
  unlike xs = filter_once (λ x. h x && not (a x)) xs

  abbrev alike : List X → List X
  alike xs = filter_once (λ x. h x && a x) xs

  module _ (f g c : X → Bool) (same : (x : X) → c x ≡ cond (a x) (g x) (f x)) where
    all_parted : (xs : List X) → (list_all f (unlike xs) && list_all g (alike xs)) ≡ list_all c (filter_once h xs)
    all_parted [] = refl
    all_parted (x ∷ xs) = by (h x) (a x) (same x) (all_parted xs)
      where
        by : (p q : Bool) → c x ≡ cond q (g x) (f x) → (list_all f (unlike xs) && list_all g (alike xs)) ≡ list_all c (filter_once h xs)
            → (list_all f (put_if (p && not q) x (unlike xs)) && list_all g (put_if (p && q) x (alike xs))) ≡ list_all c (put_if p x (filter_once h xs))
        by true true e r = and_between _ (g x) _ _ r ∙ ap (λ b. b && list_all c (filter_once h xs)) (sym e)
        by true false e r = and_around (f x) _ _ _ r ∙ ap (λ b. b && list_all c (filter_once h xs)) (sym e)
        by false q e r = r

  module _ (f c : X → ℕ) (same : (x : X) → c x ≡ cond (a x) 0 (f x)) where
    sum_parted : (xs : List X) → sum_by f (unlike xs) ≡ sum_by c (filter_once h xs)
    sum_parted [] = refl
    sum_parted (x ∷ xs) = by (h x) (a x) (same x) (sum_parted xs)
      where
        by : (p q : Bool) → c x ≡ cond q 0 (f x) → sum_by f (unlike xs) ≡ sum_by c (filter_once h xs) → sum_by f (put_if (p && not q) x (unlike xs)) ≡ sum_by c (put_if p x (filter_once h xs))
        by true true e r = r ∙ sym (nothing_first _) ∙ ap (λ n. n + sum_by c (filter_once h xs)) (sym e) ∙ sym (sum_by-cons c x (filter_once h xs))
        by true false e r = sum_by-cons f x (unlike xs) ∙ (λ i. sym e i + r i) ∙ sym (sum_by-cons c x (filter_once h xs))
        by false q e r = r

  module _ (f g c : X → List Fault) (same : (x : X) → c x ≡ cond (a x) (g x) (f x)) where
    found_parted : (xs : List X) → flat_map f (unlike xs) ++ flat_map g (alike xs) ∼ flat_map c (filter_once h xs)
    found_parted [] = like_empty
    found_parted (x ∷ xs) = by (h x) (a x) (same x) _ _ refl refl (found_parted xs)
      where
        by : (p q : Bool) → c x ≡ cond q (g x) (f x) → (l r : List Fault) → flat_map f (unlike xs) ≡ l → flat_map g (alike xs) ≡ r → l ++ r ∼ flat_map c (filter_once h xs)
            → flat_map f (put_if (p && not q) x (unlike xs)) ++ flat_map g (put_if (p && q) x (alike xs)) ∼ flat_map c (put_if p x (filter_once h xs))
        by true true e l r el er k = subst₂ (λ y z. y ∼ z ++ flat_map c (filter_once h xs)) (λ i. sym el i ++ (g x ++ sym er i)) (sym e)
            (like_through (subst₂ (λ y z. y ∼ z) (append_assoc l _ r) (append_assoc _ l r) (∼_behind r (∼_swap l (g x)))) (∼_before _ k))
        by true false e l r el er k = subst₂ (λ y z. y ∼ z ++ flat_map c (filter_once h xs)) (sym (append_assoc _ l r) ∙ (λ i. (f x ++ sym el i) ++ sym er i)) (sym e) (∼_before (f x) k)
        by false q e l r el er k = subst (λ y. y ∼ flat_map c (filter_once h xs)) (λ i. sym el i ++ sym er i) k

-- ---- lists of names, and the entries that are due

module _ {X : Type 0} (step : Schema X → X) (d v : Data) where
  due_read : due (read step d) v ≡ map (λ e. (e.0, texts e.1)) (filter_once (λ e. has e.0 v) (list_entries d))
  due_read =
      ap (λ es. filter_once (λ e. has e.0 v) (map (λ e. (e.0, texts e.1.schema)) (filter_once (λ e. is_array e.1.schema) es))) (entries_read step d)
      ∙ ap (λ es. filter_once (λ e. has e.0 v) (map (λ e. (e.0, texts e.1.schema)) es)) (filter_once-map (λ e. is_array e.1.schema) (λ e. is_array e.1) (entry step) (λ e. refl) (members d))
      ∙ ap (filter_once (λ e. has e.0 v)) (map-map (λ e. (e.0, texts e.1.schema)) (λ e. (e.0, texts e.1)) (entry step) (λ e. refl) (list_entries d))
      ∙ filter_once-map (λ e. has e.0 v) (λ e. has e.0 v) (λ e. (e.0, texts e.1)) (λ e. refl) (list_entries d)

  due_lists : are_lists d ≡ true → due (read step d) v ≡ map (λ e. (e.0, texts e.1)) (due_entries d v)
  due_lists lists = due_read ∙ ap (λ es. map {A = Name × Data} (λ e. (e.0, texts e.1)) (filter_once (λ e. has e.0 v) es)) (all_those _ (members d) lists)

  entries_due : filter_once (λ e. has e.0 v) (read step d).entries ≡ map (entry step) (due_entries d v)
  entries_due = ap (filter_once _) (entries_read step d) ∙ filter_once-map _ _ (entry step) (λ e. refl) (members d)

  schemas_read : filter_once (λ e. has e.0 v && not (is_array e.1.schema)) (read step d).entries ≡ map (entry step) (filter_once (λ e. has e.0 v && not (is_array e.1)) (members d))
  schemas_read = ap (filter_once _) (entries_read step d) ∙ filter_once-map _ _ (entry step) (λ e. refl) (members d)

  lists_read : due (read step d) v ≡ map (λ e. (e.0, texts e.1)) (filter_once (λ e. has e.0 v && is_array e.1) (members d))
  lists_read = due_read ∙ ap (map {A = Name × Data} (λ e. (e.0, texts e.1))) (filter_once-filter_once _ _ (members d))

module _ {W : World} (I : Steps W) (ms : Members) (d : Data) where
  pub dependent_required_told : are_lists d ≡ true → IsKeywordTold I ms (codes "dependentRequired", d) dependent_required (entries_told list_answers (due_entries d))
  dependent_required_told lists = record {
    verdict = λ u v. ap (list_all (λ e. is_empty (missing e.1 v))) (due_lists (I.means u) d v lists) ∙ list_all-map (λ e. is_empty (missing e.1 v)) (λ e. (e.0, texts e.1)) (due_entries d v);
    asked = λ free u v. nothing_first 0 ∙ sym (sum_of_none (due_entries d v));
    faults = λ u v P Q. ∼_same (sym (ap (flat_map _) (due_lists (I.means u) d v lists) ∙ flat_map-map _ _ (λ e. (e.0, texts e.1)) (λ e. refl) (due_entries d v)));
    shown = λ u alone v P Q. ap (λ ts. plain (P // codes "dependentRequired") Q ts ∷ [])
        (ap (map (λ e. erring _ Q _)) (due_lists (I.means u) d v lists)
        ∙ map-map (λ e. erring _ Q _) (λ e. erring _ Q _) (λ e. (e.0, texts e.1)) (λ e. refl) (due_entries d v));
  }

  pub dependent_schemas_told : IsKeywordTold I ms (codes "dependentSchemas", d) dependent_schemas (entries_told (schema_answers I) (due_entries d))
  dependent_schemas_told = told_by_entries I ms (codes "dependentSchemas", d) dependent_schemas (λ e. e.1) (λ e. e.0 ∷ []) (due_entries d) (λ u v. record {
    asked = asked_entries (I.means u) (codes "dependentSchemas") v (due_entries d v) (entries_due (I.means u) d v);
    wants = refl;
    asks = refl;
    finds = λ P Q. refl;
    shows = λ P Q. refl;
  })

  -- ---- dependencies: the schemas that are due, and behind them the lists

  abbrev schemas_due : Data → Rows
  schemas_due v = filter_once (λ e. has e.0 v && not (is_array e.1)) (members d)

  abbrev lists_due : Data → Rows
  lists_due v = filter_once (λ e. has e.0 v && is_array e.1) (members d)

  module _ (u : Bool) (v : Data) where
    asked_due : applied W u (read_members (I.means u) ms) (codes "dependencies") (read (I.means u) d) v dependencies ≡ map
        (λ e. asked (place (I.means u) e.1) v (codes "dependencies" ∷ e.0 ∷ []) []) (schemas_due v)
    asked_due = asked_entries (I.means u) (codes "dependencies") v (schemas_due v) (schemas_read (I.means u) d v)

  pub dependencies_told : IsKeywordTold I ms (codes "dependencies", d) dependencies (entries_told (dependency_answers I) (due_entries d))
  unfolding meaning
  dependencies_told = record {
    verdict = λ u v. (λ i. list_all accepts_it (asked_due u v i) && list_all (λ e. is_empty (missing e.1 v)) (lists_read (I.means u) d v i))
        ∙ (λ i. list_all-map accepts_it (λ e. asked (place (I.means u) e.1) v (codes "dependencies" ∷ e.0 ∷ []) []) (schemas_due v) i
        && list_all-map (λ (e : Name × List Name). is_empty (missing e.1 v)) (λ e. (e.0, texts e.1)) (lists_due v) i)
        ∙ all_parted (λ e. has e.0 v) (λ e. is_array e.1) (λ e. accepts I u e.1 v) (λ e. is_empty _) (λ e. (dependency_answers I).verdict u e v) (λ e. refl) (members d);
    asked = λ free u v. nothing_last _ ∙ ap (sum_by asks_it) (asked_due u v) ∙ sum_by-map asks_it _ (schemas_due v)
        ∙ sum_parted (λ e. has e.0 v) (λ e. is_array e.1) (λ e. asks I u e.1 v) (λ e. (dependency_answers I).asked u e v) (λ e. refl) (members d);
    faults = λ u v P Q. ∼_sym (subst (λ fs. fs ∼ flat_map (λ e. (dependency_answers I).faults u e v (P // codes "dependencies") Q) (due_entries d v))
        (sym ((λ i. flat_map (finds_it P Q) (asked_due u v i) ++ flat_map (λ e. required_faults e.1 v (P // codes "dependencies") Q) (lists_read (I.means u) d v i))
        ∙ (λ i. flat_map-map (finds_it P Q) (λ e. report I u e.1 v (P // codes "dependencies" // e.0) Q)
        (λ e. asked (place (I.means u) e.1) v (codes "dependencies" ∷ e.0 ∷ []) []) (λ e. refl) (schemas_due v) i
        ++ flat_map-map (λ (e : Name × List Name). required_faults e.1 v (P // codes "dependencies") Q) (λ e. required_faults (texts e.1) v (P // codes "dependencies") Q)
        (λ e. (e.0, texts e.1)) (λ e. refl) (lists_due v) i))) (found_parted _ _ _ _ _ (λ e. refl) (members d)));
    shown = λ u alone v P Q. ap (λ ts. plain (P // codes "dependencies") Q ts ∷ [])
        (ap (map (λ e. cond (is_array e.1.schema) _ _)) (entries_due (I.means u) d v)
        ∙ map-map (λ e. cond (is_array e.1.schema) _ _) (λ e. (dependency_answers I).shown u e v _ Q) (entry (I.means u)) (λ e. refl) (due_entries d v));
  }

-- ---- what is wrong with them, and the places that they read

module _ {X : Type 0} (step : Schema X → X) (d : Data) (k : Name) where
  module _ (W : World) (L : Path) where
    pub dependent_required_refusals : own_refusals W k (read step d) L dependent_required ≡ unless_object d L ++ flat_map (λ e. name_list_refusals e.0 e.1 L) (members d)
    dependent_required_refusals =
        (λ i. unless_object (schema_of_read step d i) L ++ flat_map (λ e. name_list_refusals e.0 e.1.schema L) (entries_read step d i))
        ∙ ap (λ fs. unless_object d L ++ fs) (flat_map-map _ _ (entry step) (λ e. refl) (members d))

    pub dependencies_refusals : own_refusals W k (read step d) L dependencies ≡ unless_object d L ++ flat_map (λ e. not_a_text e.1 L) (members d)
    dependencies_refusals = (λ i. unless_object (schema_of_read step d i) L ++ flat_map (λ e. not_a_text e.1.schema L) (entries_read step d i))
        ∙ ap (λ fs. unless_object d L ++ fs) (flat_map-map _ _ (entry step) (λ e. refl) (members d))

  module _ (S : Keywords X) where
    pub dependencies_places : read_places k S (read step d) dependencies ≡ each k (map (entry step) (schema_entries d))
    dependencies_places = ap (each k) (ap (filter_once _) (entries_read step d) ∙ filter_once-map _ _ (entry step) (λ e. refl) (members d))
