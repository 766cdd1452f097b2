-- What is built so far, and one more; and of the places that are read in a value.
use Rattle.std.proofs.Common.{◌≡◌, ◌<◌, ◌≤◌, ◌+◌, ℕ, Bool, true, false, List, [], ◌∷◌, ◌++◌, map, drop, length, decimal, slice_index_or as get_or, Vec, String, string_bytes, refl, sym, ◌∙◌, ap, arith}
use Rattle.std.proofs.Common.{true≢false, subst, rules, append-nil, append_assoc, Global, BTreeMap}
use Rattle.std.proofs.lemmas.List.{drop_more, drop_all}
use Rattle.serde_json.specs.Data.{Data, boolean, object, Members}
use Rattle.serde_json.specs.View.{view, members_view}
use Rattle.serde_json.specs.declared.value.Value.{Value, Array, Object, out-Value, roll-Value, the_lemmas}
use Rattle.olk_spec.specs.Names.{Name, Path, ◌//◌, put_if}
use Rattle.olk_spec.specs.Faults.{fault, MultipleTypes, like_through}
use Rattle.olk_spec.specs.Schemas.{listed, members}
use Rattle.olk_spec.specs.Malformed.{items_of_array}
use Rattle.olk_spec.specs.Costs.{one_place, no_cost}
use Rattle.olk_spec.proofs.Order.{∼_same}
use Rattle.olk_base.specs.Count.{Counts, count_compiled}
use Rattle.olk_reports.specs.declared.error.BuildError.{BuildError}
use Rattle.olk_base.specs.Kit.{Kit}
use Rattle.olk_tree.specs.Places.{AnswersBy, Stands}
use Rattle.olk_build.specs.Refusing.{TellsOneOf, Refuses, Spends, SpendsWithin}
use Rattle.olk_build.specs.Standing.{StandEach, StandInner, StandAt}
use Rattle.olk_build.specs.Building.{IsBuilt, ObjectIsBuilt, RefusesObject, RefusesSchema, RefusesEach, RefusesInner, no_lists, entries_read, is_read, each_malformed, each_cost, PlacesAreBuilt}
use Rattle.olk_build.specs.Building.{RefusesPlaces, places_malformed, places_cost}
use Rattle.olk_build.proofs.Spending.{SoFar, refused_so_far, one_more_so_far, one_more_pair, spends_append, spends_same, spends_place, within_after, within_same, within_exactly, tells_same}
use Rattle.olk_build.proofs.Spending.{spends_nothing}
use Rattle.olk_build.specs.declared.shape.ReadPlaces.TheVariants.{Entries, Nothing, Itself, SchemaEntries, InnerEntries, Branches}
use Rattle.olk_tree.specs.declared.node.Body.TheVariants.{True, False, Keywords}
use Rattle.olk_meaning.specs.Chosen.{object_form}
use Rattle.olk_meaning.proofs.Standing.{object_stands}
use Rattle.olk_meaning.proofs.Facts.{IsNoSchema, no_schema_malformed, no_schema_cost, object_accepts, object_asks, object_report, object_tree, object_malformed, object_cost}
use Rattle.olk_build.proofs.Shapes.{rolled}
use Rattle.serde_json.specs.declared.value.Value.TheOpen.{Value-F}
use Rattle.serde_json.specs.declared.value.Value.TheVariants.{rolls-Array, rolls-Object}
use Rattle.olk_build.specs.declared.shape.ReadPlaces.{ReadPlaces}
use denote.Param.Weighed.{most}
use Rattle.std.specs.{List.enumerate_from, Prelude.⊤, Map.values_of}
use Rattle.olk_spec.specs.{Tree.plain, World.World}
use Rattle.olk_tree.specs.{Answers.Answers, declared.node.KeywordOver.KeywordOver, declared.node.Body.Body, Questions.of_asked}
use Rattle.olk_meaning.specs.Steps.{meaning, malformations_at, cost, validators}
use Rattle.olk_spec.specs.Meaning.{meaning as own_meaning}
use Rattle.olk_spec.specs.Malformed.{malformations_at as own_malformations}
use Rattle.olk_spec.specs.Costs.{cost as own_cost}
use Rattle.olk_meaning.specs.Chosen.{validators as own_validators}
use Rattle.olk_tree.specs.Steps.{StandsBy, StepsOf, layer_of}
use Rattle.olk_meaning.proofs.Layer.{layer_steps, layer_refuses, layer_costs}

-- ---- what is built so far, and one more

abbrev pub truth_body : {W : Type 0} → Bool → Body W
truth_body true = True
truth_body false = False

-- ---- items under their positions

abbrev numbered_from : ℕ → List Data → List (Name × Data)
numbered_from n ds = map (λ e. (decimal e.0, e.1)) (enumerate_from n ds)

-- the branches from a position on
abbrev pub branches_from : ℕ → List Value → List (Name × Data)
branches_from i vs = numbered_from i (map view (drop i vs))

module _ (i : ℕ) (vs : List Value) where
  pub next_branch : {v : Value} → i < length vs → v ≡ get_or vs i v → branches_from i vs ≡ (decimal i, view v) ∷ branches_from (i + 1) vs
  next_branch {v} l e = ap (λ xs. numbered_from i (map view xs)) (drop_more vs i v l ∙ ap (λ w. w ∷ drop (i + 1) vs) (sym e))

  pub no_branch : length vs ≤ i → branches_from i vs ≡ []
  no_branch l = ap (λ xs. numbered_from i (map view xs)) (drop_all i vs l)

-- ---- no schema, and an object, where the places inside answer what they do for the layer

module _ (W : World) (P : Path) {a b : Counts} {e : BuildError} where
  pub refuses_no_schema : (d : Data) → IsNoSchema d → b ≡ count_compiled a → TellsOneOf (fault MultipleTypes d [] P ∷ []) e → Refuses (malformations_at (layer_steps W) d P) (cost (layer_steps W) d) a b e
  refuses_no_schema d h c t = record {
    tells = tells_same (sym (no_schema_malformed W d P h)) e t;
    spends = within_same (sym (no_schema_cost W d h)) (within_exactly (spends_place a b c));
  }

module _ {K R : Type 0} (o : Kit K R) (ms : Members) (P : Path) {a m b : Counts} {e : BuildError} where
  pub refuses_object : m ≡ count_compiled a → RefusesObject (layer_of o) ms P m b e → RefusesSchema (layer_of o) (object ms) P a b e
  refuses_object c r = record {
    tells = tells_same (sym (object_malformed o.world ms P)) e r.tells;
    spends = within_same (sym (object_cost o.world ms)) (within_after a m b one_place _ (spends_place a m c) r.spends);
  }

-- ---- a node

module _ {K R N : Type 0} {o : Kit K R} {answers : N → Answers} {n : N} {P : Path} {a m : Counts} (c : m ≡ count_compiled a) where
  pub built_truth : {d : Data} (t : Bool) → AnswersBy o answers P (truth_body t) n → d ≡ boolean t → IsBuilt (layer_of o) answers n d P a m
  unfolding meaning malformations_at cost validators
  built_truth true is e = rw e record {
    stands = record {
      verdict = λ u v. ap (λ q. q.accepts u) (is.verdict v);
      asks_within = λ u v. let q = ap (λ q. q.asks of_asked u) (is.verdict v) in omega (arith, q);
      faults = λ u v Q. ∼_same (is.faults u v Q);
      evaluation = is.evaluation;
      place = is.place;
      formed = is.formed;
      forms = is.forms;
    };
    clean = refl;
    spends = spends_place a m c;
  }
  built_truth false is e = rw e record {
    stands = record {
      verdict = λ u v. ap (λ q. q.accepts u) (is.verdict v);
      asks_within = λ u v. let q = ap (λ q. q.asks of_asked u) (is.verdict v) in omega (arith, q);
      faults = λ u v Q. ∼_same (is.faults u v Q);
      evaluation = is.evaluation;
      place = is.place;
      formed = is.formed;
      forms = is.forms;
    };
    clean = refl;
    spends = spends_place a m c;
  }

  pub built_object : {ms : Members} {ks : Vec (KeywordOver K R N) Global} {z : Counts} → AnswersBy o answers P (Keywords ks) n → ObjectIsBuilt (layer_of o) ms answers ks.items P m z
      → IsBuilt (layer_of o) answers n (object ms) P a z
  built_object {ms} {z = z} is h = record {
    stands = record {
      verdict = λ u v. ap (λ q. q.accepts u) (is.verdict v) ∙ h.mean.covers.verdict u v ∙ sym (object_accepts o.world ms u v);
      asks_within = λ u v. let q = ap (λ q. q.asks of_asked u) (is.verdict v) in let r = h.mean.covers.asks_within u v in let t = object_asks o.world ms u v in omega (arith, q, r, t);
      faults = λ u v Q. like_through (∼_same (is.faults u v Q)) (like_through (h.mean.covers.faults u v Q) (∼_same (sym (object_report o.world ms u v P Q))));
      evaluation = λ u v Q. is.evaluation u v Q ∙ ap (plain P Q) (h.mean.shows h.clean u v Q) ∙ sym (object_tree o.world ms u v P Q);
      place = is.place;
      formed = is.formed ∙ h.mean.formed;
      forms = is.forms ∙ ap (λ l. (P, object_form) ∷ l) (h.mean.forms h.clean) ∙ sym (object_stands o.world ms P);
    };
    clean = object_malformed o.world ms P ∙ h.clean;
    spends = spends_same a z _ _ (sym (object_cost o.world ms)) (spends_append a m z one_place _ (spends_place a m c) h.spends);
  }

-- what is built by the layer's steps is what the definitions say
module _ {K R : Type 0} (o : Kit K R) (S : Data) {P L : Path} (place : L ≡ P) {a b : Counts} where
  module _ {N : Type 0} {answers : N → Answers} {n : N} (h : IsBuilt (layer_of o) answers n S L a b) where
    pub own_stands : Stands o answers n S P
    unfolding meaning own_meaning validators own_validators
    own_stands = rw (← place) record {
      verdict = h.stands.verdict;
      asks_within = h.stands.asks_within;
      faults = h.stands.faults;
      evaluation = h.stands.evaluation;
      place = h.stands.place;
      formed = h.stands.formed;
      forms = h.stands.forms;
    }

    pub own_clean : own_malformations o.world S P ≡ []
    own_clean = rw (← place) (sym (layer_refuses o.world S L) ∙ h.clean)

    pub own_spends : Spends a b (own_cost o.world S)
    own_spends = spends_same a b _ _ (layer_costs o.world S) h.spends

  module _ {e : BuildError} (h : RefusesSchema (layer_of o) S L a b e) where
    pub own_tells : TellsOneOf (own_malformations o.world S P) e
    own_tells = rw (← place) (tells_same (layer_refuses o.world S L) e h.tells)

    pub own_within : SpendsWithin a b (own_cost o.world S)
    own_within = within_same (layer_costs o.world S) h.spends

module _ {K R N : Type 0} {o : Kit K R} (I : StepsOf o) (answers : N → Answers) where
  -- nodes for the entries so far
  abbrev pub EntriesSoFar : Path → List (Name × Data) → Counts → List N → List (Name × Data) → Counts → Type 0
  EntriesSoFar P all a ns left m = SoFar (λ e. malformations_at I.steps e.1 (P // e.0)) (λ e. cost I.steps e.1) (λ ns es. StandEach I answers ns es P) all a ns left m

  -- ---- nodes for the entries of each of these

  inner_push : (P : Path) (ns here : List N) (es : List (Name × Data)) (e : Name × Data) → StandInner I answers ns es P → StandEach I answers here (members e.1) (P // e.0)
      → StandInner I answers (ns ++ here) (es ++ e ∷ []) P
  inner_push P ns here [] e h s = (here, [], ap (λ l. l ++ here) h ∙ sym (append-nil here), s, refl)
  inner_push P ns here (x ∷ es) e h s = (h.0, h.1 ++ here, ap (λ l. l ++ here) h.2 ∙ append_assoc h.0 h.1 here, h.3, inner_push P h.1 here es e h.4 s)

  -- and for the entries of those so far
  abbrev pub InnerSoFar : Path → List (Name × Data) → Counts → List N → List (Name × Data) → Counts → Type 0
  InnerSoFar P all a ns left m = SoFar (λ e. each_malformed I (P // e.0) (members e.1)) (λ e. each_cost I (members e.1)) (λ ns es. StandInner I answers ns es P) all a ns left m

module _ {K R N : Type 0} {o : Kit K R} {I : StepsOf o} {answers : N → Answers} {all : List (Name × Data)} {a : Counts} {ns : List N} {left : List (Name × Data)} where
  module _ {m b : Counts} {x : Name × Data} {rest : List (Name × Data)} {L : Path} (P : Path) where
    module _ (h : EntriesSoFar I answers P all a ns left m) (next : left ≡ x ∷ rest) (place : L ≡ P // x.0) where
      pub entry_refused : {e : BuildError} → RefusesSchema I x.1 L m b e → RefusesEach I all P a b e
      entry_refused r = refused_so_far h next (rw (← place) r)

      pub one_more_entry : {n : N} → IsBuilt I answers n x.1 L m b → {new : List N} → new ≡ ns ++ n ∷ [] → EntriesSoFar I answers P all a new rest b
      one_more_entry built q = one_more_pair (λ n e. StandsBy I answers n e.1 (P // e.0)) h next q built.spends (rw (← place) built.stands) (rw (← place) built.clean)

    module _ (h : InnerSoFar I answers P all a ns left m) (next : left ≡ x ∷ rest) (place : L ≡ P // x.0) where
      pub inner_refused : {e : BuildError} → RefusesPlaces I Entries x.1 L m b e → RefusesInner I all P a b e
      inner_refused r = refused_so_far h next (rw (← place) r)

      pub one_more_inner : {here : List N} → PlacesAreBuilt I answers Entries here x.1 L m b → {new : List N} → new ≡ ns ++ here → InnerSoFar I answers P all a new rest b
      one_more_inner built q = one_more_so_far h next built.spends (rw q (inner_push I answers P ns _ h.done x h.built.stand (rw (← place) built.stand))) (rw (← place) built.clean)

-- ---- entries that are read

pub none_is_read : (passes : Bool) → entries_read passes [] ≡ []
none_is_read true = refl
none_is_read false = refl

-- the first entry is passed over, or read
module _ {n : String Global} {v : Value} {left rest : List (String Global × Value)} (steps : left ≡ (n, v) ∷ rest) {is : Bool} where
  pub past_an_entry : (passes : Bool) → is ≡ is_read passes (view v) → is ≡ false → entries_read passes (listed (members_view left)) ≡ entries_read passes (listed (members_view rest))
  past_an_entry true r e = ap (λ l. no_lists (listed (members_view l))) steps ∙ ap (λ b. put_if b (string_bytes n, view v) (no_lists (listed (members_view rest)))) (sym r ∙ e)
  past_an_entry false r e = absurd (true≢false (sym r ∙ e))

  pub at_an_entry : (passes : Bool) → is ≡ is_read passes (view v) → is ≡ true
      → entries_read passes (listed (members_view left)) ≡ (string_bytes n, view v) ∷ entries_read passes (listed (members_view rest))
  at_an_entry true r e = ap (λ l. no_lists (listed (members_view l))) steps ∙ ap (λ b. put_if b (string_bytes n, view v) (no_lists (listed (members_view rest)))) (sym r ∙ e)
  at_an_entry false r e = ap (λ l. listed (members_view l)) steps

-- ---- values that are no object, and no array

no_members_layer : (x : Value-F Value) → ((m : BTreeMap (String Global) Value) → roll-Value x ≡ Object m → ⊥) → members (view (roll-Value x)) ≡ []
no_members_layer (Value-F.Object m) h = absurd (h m (rolls-Object m))
no_members_layer _ h = search (rules, the_lemmas)

pub no_object_no_members : (v : Value) → ((m : BTreeMap (String Global) Value) → v ≡ Object m → ⊥) → members (view v) ≡ []
no_object_no_members v = subst (λ x. ((m : BTreeMap (String Global) Value) → x ≡ Object m → ⊥) → members (view x) ≡ []) (rolled v) (no_members_layer (out-Value v))

no_items_layer : (x : Value-F Value) → ((ds : Vec Value Global) → roll-Value x ≡ Array ds → ⊥) → items_of_array (view (roll-Value x)) ≡ []
no_items_layer (Value-F.Array ds) h = absurd (h ds (rolls-Array ds))
no_items_layer _ h = search (rules, the_lemmas)

pub no_array_no_items : (v : Value) → ((ds : Vec Value Global) → v ≡ Array ds → ⊥) → items_of_array (view v) ≡ []
no_array_no_items v = subst (λ x. ((ds : Vec Value Global) → x ≡ Array ds → ⊥) → items_of_array (view x) ≡ []) (rolled v) (no_items_layer (out-Value v))

abbrev pub NoneIn : Data → ReadPlaces → Type 0
NoneIn d Nothing = ⊤
NoneIn d Itself = ⊥
NoneIn d Branches = items_of_array d ≡ []
NoneIn d r = members d ≡ []

module _ {K R N : Type 0} {o : Kit K R} {I : StepsOf o} {answers : N → Answers} {d : Data} {L : Path} {a : Counts} where
  -- ---- where there are none

  nothing_stands : (r : ReadPlaces) → StandAt I answers r [] d L → places_malformed I r d L ≡ [] → places_cost I r d ≡ no_cost → PlacesAreBuilt I answers r [] d L a a
  nothing_stands r h c e = record { stand = h; clean = c; spends = spends_same a a _ _ (sym e) (spends_nothing a) }

  pub none_are_built : (r : ReadPlaces) → NoneIn d r → PlacesAreBuilt I answers r [] d L a a
  none_are_built Nothing e = nothing_stands Nothing refl refl refl
  none_are_built Itself e = absurd e
  none_are_built Entries e = nothing_stands Entries (rw e tt) (rw e refl) (rw e refl)
  none_are_built SchemaEntries e = nothing_stands SchemaEntries (rw e tt) (rw e refl) (rw e refl)
  none_are_built InnerEntries e = nothing_stands InnerEntries (rw e refl) (rw e refl) (rw e refl)
  none_are_built Branches e = nothing_stands Branches (rw e tt) (rw e refl) (rw e refl)

  -- ---- the value itself

  pub itself_is_built : {n : N} {b : Counts} → IsBuilt I answers n d L a b → PlacesAreBuilt I answers Itself (n ∷ []) d L a b
  itself_is_built h = record { stand = h.stands; clean = h.clean; spends = h.spends }

-- ---- a value among the values of a map is no larger than the largest of them

module _ {K V : Type 0} (size : V → ℕ) where
  among_these : (before : List (K × V)) (k : K) (v : V) (next : List (K × V)) → size v ≤ most size (values_of (before ++ (k, v) ∷ next))
  among_these [] k v next = omega arith
  among_these (x ∷ before) k v next = let h = among_these before k v next in omega (arith, h)

  pub size_among : (before : List (K × V)) (k : K) (v : V) (next all : List (K × V)) → before ++ (k, v) ∷ next ≡ all → size v ≤ most size (values_of all)
  size_among before k v next all e = subst (λ l. size v ≤ most size (values_of l)) e (among_these before k v next)
