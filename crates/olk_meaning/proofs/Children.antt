-- What keywords answer, told of their raw values.
use Rattle.std.proofs.Common.{◌≡◌, ℕ, ◌+◌, ◌==◌, Bool, true, false, not, cond, ◌&&◌, List, [], ◌∷◌, ◌++◌, map, count_by, sum_by, codes, Some, None, option_to_list, nat_lt, refl, sym, ◌∙◌, ap, arith}
use Rattle.std.specs.List.{flat_map, list_any}
use Rattle.serde_json.specs.Data.{Data, Members}
use Rattle.olk_spec.specs.Names.{Name, Path, ◌//◌, lookup_name, filter_once, put_if, is_among, is_empty}
use Rattle.olk_spec.specs.Vocabulary.{properties, required, all_of, any_of, not_keyword, leaf, one_of}
use Rattle.olk_spec.specs.Faults.{Not, AnyOf, Leaf, fault, context, OneOfNotValid, OneOfMultipleValid}
use Rattle.olk_spec.specs.Schemas.{Sub, Schema, read, read_members, listed, numbered, members, texts, branches, is_object, entries_at}
use Rattle.olk_spec.specs.Meanings.{Meaning, restricts, holds}
use Rattle.olk_spec.specs.Reports.{required_faults, fault_if, branch_faults}
use Rattle.olk_spec.specs.Tree.{leaf_node, result, plain, erring, described}
use Rattle.olk_spec.specs.Trees.{fuses_one, fuses_two, missing_child}
use Rattle.olk_spec.proofs.Reading.{entry, place, lookup_listed, schema_of_read, entries_there}
use Rattle.olk_meaning.specs.Members.{member_child, StandsAlone}
use Rattle.olk_meaning.specs.Told.{IsKeywordTold, entries_told, schema_answers, branches_find, branches_shown, accepting_branches, any_told, shown_at, shown_declared, declared_told, names_told}
use Rattle.olk_meaning.specs.Told.{negation_told, faults_told, accepting_count, one_told}
use Rattle.olk_meaning.proofs.Facts.{at_entries, branch_entries, item_entries, list_any_under, sum_by-map, nothing_first, declared_accept, declared_ask, declared_find, required_accepts, required_asks}
use Rattle.olk_meaning.proofs.Facts.{required_report, told_by_entries, asked_entries}
use Rattle.olk_spec.proofs.Maps.{map-map, filter_once-map, is_empty-map}
use Rattle.std.proofs.{lemmas.List.Sums.sum_by-cons, Math.Bool.and-true}
use Rattle.olk_spec.specs.{World.World, Malformed.items_of_array, Accepts.accepting}
use Rattle.olk_spec.proofs.{Order.∼_same, Walks.list_all-true}
use Rattle.olk_meaning.specs.Steps.{Steps, accepts, asks, meaning}
use Rattle.olk_meaning.proofs.{Dependencies.all_those, Rows.Rows}

-- ---- counting, and those that there are

module _ {X : Type 0} (test : X → Bool) where
  counted_none : (b : Bool) (n : ℕ) (x : X) (xs : List X) → (n == 0) ≡ is_empty xs → (cond b 1 0 + n == 0) ≡ is_empty (put_if b x xs)
  counted_none true n x xs e = grind arith
  counted_none false n x xs e = (let z : 0 + n ≡ n = omega arith in ap (λ k. k == 0) z) ∙ e

  -- none is counted where there is none
  none_counted : (xs : List X) → (count_by test xs == 0) ≡ is_empty (filter_once test xs)
  none_counted [] = refl
  none_counted (x ∷ xs) = ap (λ n. n == 0) (sum_by-cons _ x xs) ∙ counted_none (test x) (count_by test xs) x (filter_once test xs) (none_counted xs)

none_under : {X Y : Type 0} (p : X → Bool) (h : Y → X) (ys : List Y) → is_empty (filter_once p (map h ys)) ≡ is_empty (filter_once (λ y. p (h y)) ys)
none_under p h ys = ap is_empty (filter_once-map p _ h (λ y. refl) ys) ∙ is_empty-map h _

module _ {W : World} (I : Steps W) (u : Bool) (v : Data) where
  -- a schema, with its parts' meanings, to its own
  abbrev to_meaning : Schema Meaning → Meaning
  to_meaning = I.means u

  -- ---- what the declared schemas show of the members

  module _ (L Q : Path) where
    pub entry_shown : (m : Name × Data) (es : Rows) → map (λ s. s.answer.tree m.1 (L // m.0) (Q // m.0))
        (option_to_list (lookup_name m.0 (map (entry to_meaning) es))) ≡ shown_at I u v L Q es m
    unfolding meaning
    entry_shown m es = ap (map _) (at_entries to_meaning m.0 es) ∙ map-map _ _ (place to_meaning) (λ d. refl) _

    entries_shown : (es ms : Rows) → flat_map (λ m. map (λ s. s.answer.tree m.1 (L // m.0) (Q // m.0))
        (option_to_list (lookup_name m.0 (map (entry to_meaning) es)))) ms ≡ flat_map (shown_at I u v L Q es) ms
    entries_shown es [] = refl
    entries_shown es (m ∷ ms) = λ i. entry_shown m es i ++ entries_shown es ms i

  -- ---- branches

  module _ (k : Name) (P Q : Path) (d : Data) where
    pub all_branches_shown : map (λ b. b.1.answer.tree v (P // k // b.0) Q) (filter_once (λ b. true) (branches (read to_meaning d))) ≡ branches_shown I u v
        (P // k) Q (numbered (items_of_array d))
    unfolding meaning
    all_branches_shown = ap (λ bs. map (λ b. b.1.answer.tree v (P // k // b.0) Q) (filter_once (λ b. true) bs)) (branch_entries to_meaning d)
        ∙ ap (map _) (all_those (λ b. true) (map (entry to_meaning) (numbered (items_of_array d))) (list_all-true (map (entry to_meaning) (numbered (items_of_array d)))))
        ∙ map-map _ _ (entry to_meaning) (λ e. refl) _

    pub accepting_branches_shown : map (λ b. b.1.answer.tree v (P // k // b.0) Q) (filter_once (λ b. holds b.1 v) (branches (read to_meaning d))) ≡ branches_shown I u v
        (P // k) Q (accepting_branches I u v (numbered (items_of_array d)))
    unfolding meaning
    accepting_branches_shown = ap (λ bs. map (λ b. b.1.answer.tree v (P // k // b.0) Q) (filter_once (λ b. holds b.1 v) bs)) (branch_entries to_meaning d)
        ∙ ap (map (λ b. b.1.answer.tree v (P // k // b.0) Q)) (filter_once-map (λ b. holds b.1 v) _ (entry to_meaning) (λ e. refl) (numbered (items_of_array d)))
        ∙ map-map _ _ (entry to_meaning) (λ e. refl) _

  module _ (ms : Members) (P Q : Path) where
    pub properties_child : (d : Data) → lookup_name (codes "properties") (listed ms) ≡ Some d → restricts (read_members to_meaning ms) ≡ false
        → member_child I ms (codes "properties", d) properties u v P Q ≡ shown_declared I u v (P // codes "properties") Q (members d)
        (missing_child W u (read_members to_meaning ms) v P Q (fuses_two (read_members to_meaning ms))) ∷ []
    properties_child d there free =
        λ i. put_if (not (free i)) (result (P // codes "properties") Q (cond (and-true (is_object v) i) (Some (met i)) None) false []
        (shown i ++ missing_child W u (read_members to_meaning ms) v P Q (fuses_two (read_members to_meaning ms)))) []
      where
        here : entries_at (read_members to_meaning ms) (codes "properties") ≡ map (entry to_meaning) (members d)
        here = entries_there to_meaning ms (codes "properties") d (sym (lookup_listed (codes "properties") ms) ∙ there)

        met : map (λ m. m.0) (filter_once (λ m. is_among m.0 (map (λ e. e.0) (entries_at (read_members to_meaning ms) (codes "properties")))) (members v)) ≡ map
            (λ m. m.0) (filter_once (λ m. is_among m.0 (map (λ e. e.0) (members d))) (members v))
        met = ap (λ ns. map (λ m. m.0) (filter_once (λ m. is_among m.0 ns) (members v)))
            (ap (map {A = Name × Sub Meaning} _) here ∙ map-map {X = Name × Sub Meaning} {Y = Name × Data} _ _ _ (λ e. refl) _)

        shown : flat_map (λ m. map (λ s. s.answer.tree m.1 (P // codes "properties" // m.0) (Q // m.0))
            (option_to_list (lookup_name m.0 (entries_at (read_members to_meaning ms) (codes "properties"))))) (members v) ≡ flat_map
            (shown_at I u v (P // codes "properties") Q (members d)) (members v)
        shown =
            ap (λ es. flat_map (λ m. map (λ s. s.answer.tree m.1 (P // codes "properties" // m.0) (Q // m.0)) (option_to_list (lookup_name m.0 es))) (members v)) here
            ∙ entries_shown _ Q _ (members v)

    pub required_child : (d : Data) → StandsAlone I u ms (codes "required", d) required → member_child I ms (codes "required", d) required u v P Q ≡ erring
        (P // codes "required") Q (required_faults (texts d) v (P // codes "required") Q) ∷ []
    required_child d h = λ i. put_if (not (h.0 i) && not (h.1 i)) (erring (P // codes "required") Q (required_faults (texts (schema_of_read to_meaning d i)) v (P // codes "required") Q)) []

    -- it is shown elsewhere
    pub no_required_child : (d : Data) → fuses_one (read_members to_meaning ms) ≡ false → fuses_two (read_members to_meaning ms) ≡ true
        → member_child I ms (codes "required", d) required u v P Q ≡ []
    no_required_child d e f = λ i. put_if (not (e i) && not (f i)) (erring (P // codes "required") Q (required_faults (texts (schema_of_read to_meaning d i)) v (P // codes "required") Q)) []

module _ {W : World} (I : Steps W) (ms : Members) (d : Data) where
  abbrev pub given : Rows
  given = numbered (items_of_array d)

  pub properties_told : IsKeywordTold I ms (codes "properties", d) properties (declared_told I (members d))
  properties_told = record {
    verdict = declared_accept I ms d;
    asked = λ free. declared_ask I ms d;
    faults = λ u v P Q. ∼_same (sym (declared_find I ms d u v P Q));
    shown = λ u alone v P Q. properties_child I u v ms P Q d alone.0 alone.1
        ∙ ap (λ b. shown_declared I u v (P // codes "properties") Q (members d) (missing_child W u (read_members (I.means u) ms) v P Q b) ∷ []) alone.2;
  }

  pub required_told : IsKeywordTold I ms (codes "required", d) required (names_told (texts d))
  required_told = record {
    verdict = required_accepts I ms d;
    asked = λ free. required_asks I ms d;
    faults = λ u v P Q. ∼_same (sym (required_report I ms d u v P Q));
    shown = λ u alone v P Q. required_child I u v ms P Q d alone;
  }

  pub all_of_told : IsKeywordTold I ms (codes "allOf", d) all_of (entries_told (schema_answers I) (λ v. given))
  all_of_told = told_by_entries I ms (codes "allOf", d) all_of (λ e. e.1) (λ e. e.0 ∷ []) (λ v. given) (λ u v. record {
    asked = asked_entries (I.means u) (codes "allOf") v given (branch_entries (I.means u) d);
    wants = refl;
    asks = refl;
    finds = λ P Q. refl;
    shows = λ P Q. refl;
  })

  module _ (u : Bool) (v : Data) where
    pub branches_report : (k : Name) (P Q : Path) → branch_faults (read (I.means u) d) v (P // k) Q ≡ branches_find I u v (P // k) Q given
    unfolding meaning
    branches_report k P Q = ap context (ap (map _) (branch_entries (I.means u) d) ∙ map-map _ _ (entry (I.means u)) (λ e. refl) _)

    pub items_ask : sum_by (λ s. s.answer.asks v) (read (I.means u) d).items ≡ sum_by (λ e. asks I u e.1 v) given
    unfolding meaning
    items_ask = ap (sum_by (λ s. s.answer.asks v)) (item_entries (I.means u) d) ∙ sum_by-map _ (λ e. place (I.means u) e.1) given

    any_accepts : list_any (λ s. holds s v) (read (I.means u) d).items ≡ list_any (λ e. accepts I u e.1 v) given
    unfolding meaning
    any_accepts = ap (list_any (λ s. holds s v)) (item_entries (I.means u) d) ∙ list_any_under (λ e. place (I.means u) e.1) _ given

    none_accept : (accepting (read (I.means u) d) v == 0) ≡ is_empty (accepting_branches I u v given)
    unfolding meaning
    none_accept = none_counted _ (read (I.means u) d).items ∙ ap (λ xs. is_empty (filter_once (λ s. holds s v) xs)) (item_entries (I.means u) d)
        ∙ none_under _ (λ e. place (I.means u) e.1) given

  pub any_of_told : IsKeywordTold I ms (codes "anyOf", d) any_of (any_told I given)
  any_of_told = record {
    verdict = any_accepts;
    asked = λ free u v. nothing_first _ ∙ items_ask u v;
    faults = λ u v P Q. ∼_same (λ i. fault_if (not (sym (any_accepts u v) i)) (AnyOf (sym (branches_report u v (codes "anyOf") P Q) i)) v (P // codes "anyOf") Q);
    shown = λ u alone v P Q. (λ i. cond (none_accept u v i) (result (P // codes "anyOf") Q None true [] (all_branches_shown I u v (codes "anyOf") P Q d i))
        (plain (P // codes "anyOf") Q (accepting_branches_shown I u v (codes "anyOf") P Q d i)) ∷ []);
  }

  pub not_told : IsKeywordTold I ms (codes "not", d) not_keyword (negation_told I d)
  unfolding meaning
  not_told = record {
    verdict = λ u v. refl;
    asked = λ free u v. nothing_first _;
    faults = λ u v P Q. ∼_same (λ i. fault_if (accepts I u d v) (Not (sym (schema_of_read (I.means u) d) i)) v (P // codes "not") Q);
    shown = λ u alone v P Q. (λ i. erring (P // codes "not") Q (fault_if (accepts I u d v) (Not (schema_of_read (I.means u) d i)) v (P // codes "not") Q) ∷ []);
  }

  pub leaf_told : (k : Name) → IsKeywordTold I ms (k, d) leaf (faults_told k (W.faults k d))
  leaf_told k = record {
    verdict = λ u v. (λ i. is_empty (W.faults k (schema_of_read (I.means u) d i) v));
    asked = λ free u v. nothing_first 0;
    faults = λ u v P Q. ∼_same (λ i. map (λ t. fault (Leaf k t) v Q (P // k)) (W.faults k (sym (schema_of_read (I.means u) d) i) v));
    shown = λ u alone v P Q. (λ i. leaf_node (P // k) Q (described (map (λ t. fault (Leaf k t) v Q (P // k)) (W.faults k (schema_of_read (I.means u) d i) v))) ∷ []);
  }

-- ---- `oneOf`, over the raw data of its branches

module _ {W : World} (I : Steps W) (ms : Members) (d : Data) where
  counted : (u : Bool) (v : Data) → accepting (read (I.means u) d) v ≡ accepting_count I u v (given I ms d)
  unfolding meaning
  counted u v = ap (count_by (λ s. s.answer.accepts v)) (item_entries (I.means u) d)
      ∙ sum_by-map (λ s. cond (s.answer.accepts v) 1 0) (λ e. place (I.means u) e.1) (given I ms d)

  pub one_of_told : IsKeywordTold I ms (codes "oneOf", d) one_of (one_told I (given I ms d))
  one_of_told = record {
    verdict = λ u v. ap (λ n. n == 1) (counted u v);
    asked = λ free u v. nothing_first _ ∙ items_ask I ms d u v;
    faults = λ u v P Q. ∼_same (λ i.
        fault_if (sym (counted u v) i == 0) (OneOfNotValid (sym (branches_report I ms d u v (codes "oneOf") P Q) i)) v (P // codes "oneOf") Q
        ++ fault_if (nat_lt 1 (sym (counted u v) i)) (OneOfMultipleValid (sym (branches_report I ms d u v (codes "oneOf") P Q) i)) v (P // codes "oneOf") Q);
    shown = λ u alone v P Q. (λ i. cond (counted u v i == 0)
        (result (P // codes "oneOf") Q None true [] (all_branches_shown I u v (codes "oneOf") P Q d i))
        (result (P // codes "oneOf") Q None false (put_if (nat_lt 1 (counted u v i)) (codes "oneOf", codes "more than one subschema succeeded", false) [])
        (accepting_branches_shown I u v (codes "oneOf") P Q d i)) ∷ []);
  }
