-- Nodes that answer as entries are to be answered, and that what is made of them has the form that is chosen for it.
use Rattle.olk_tree.specs.Maps.{keys_in, nodes_in, mapped, named}
use Rattle.olk_build.specs.Standing.{StandAt, IsLast, FillsPlace, EntriesStand, StandEach}
use Rattle.std.proofs.Common.{Option, Some, None, ◌≡◌, ◌≤◌, Bool, ◌&&◌, List, [], ◌∷◌, map, length, sum_by, true, ◌≢◌, ℕ, false, cond, not, nat_lt, ◌++◌, zip, bytes_eq, string_bytes, is_some}
use Rattle.std.proofs.Common.{option_to_list, Vec, refl, ap, subst, sym, ◌∙◌, append-nil, Global, lt-ltb, le-ltb, eq-eqb, ne_eqb}
use Rattle.std.specs.List.{AllZip, list_all, flat_map}
use Rattle.olk_build.proofs.Pairs.{AllZip-implies, same_map, same_flat_map, like_flat_map, all_hold, every_accepts, every_asks}
use Rattle.std.proofs.lemmas.Slice.Zip.{AllZip-long, firsts-zip, seconds-zip}
use Rattle.serde_json.specs.Data.{Data}
use Rattle.olk_spec.specs.Names.{Name, Path, ◌//◌}
use Rattle.olk_meaning.specs.Told.{EntryAnswers, schema_answers}
use Rattle.olk_meaning.proofs.Rows.{Rows}
use Rattle.olk_tree.specs.Questions.{every, of_asked}
use Rattle.olk_spec.proofs.Truth.{and_from}
use Rattle.olk_meaning.specs.Chosen.{Form, Placed, few as few_names, many as many_names, size_for, one_or_other, if_form, single_all_of_form, all_of_form, single_any_of_form, any_of_form}
use Rattle.olk_meaning.specs.Chosen.{single_one_of_form, one_of_form, single_pattern_form, patterns_form, if_then_form, if_else_form, if_then_else_form}
use Rattle.olk_meaning.proofs.Standing.{each_placed, case_placed}
use Rattle.olk_tree.specs.Formed.{is_one, is_paired, is_map_formed, size_of}
use Rattle.olk_tree.specs.Validators.{answers_of, validator_formed, validator_forms}
use Rattle.olk_tree.specs.declared.properties_map.PropertiesMap.TheVariants.{Small, Big}
use Rattle.olk_build.specs.Forms.{HasEntries, IsMapOver, IsMapFor, IsFormOfAllOf, IsFormOfAnyOf, IsFormOfOneOf, IsFormOfPatternProperties, IsFormOfIf}
use Rattle.olk_build.proofs.Choosing.{branches_length}
use Rattle.olk_build.specs.{declared.shape.ReadPlaces.TheVariants.Itself, Reading.IsPattern}
use Rattle.olk_spec.specs.Faults.{◌∼◌}
use Rattle.olk_spec.specs.{Schemas.numbered, Malformed.items_of_array, declared.TheConstants.HASHMAP_THRESHOLD}
use Rattle.olk_base.specs.{Kit.Kit, declared.pattern.CompiledPattern.CompiledPattern}
use Rattle.olk_tree.specs.{Answers.Answers, declared.properties.SmallPropertiesWithRequired2.SmallPropertiesWithRequired2}
use Rattle.olk_tree.specs.{declared.map.SmallMap.SmallMap, declared.properties_map.PropertiesMap.PropertiesMap, declared.node.KeywordOver.KeywordOver}
use Rattle.std.specs.{Option.option_map_or, declared.boxed.Box.Box}
use Rattle.std.proofs.{Math.Bool.and-true, lemmas.List.length-map}
use Rattle.olk_tree.specs.declared.node.KeywordOver.TheVariants as keyword
use Rattle.olk_tree.specs.Steps.{StandsBy, StepsOf}

-- ---- nodes that answer as entries of a keyword's value are to be answered

module _ {K R N : Type 0} {o : Kit K R} (I : StepsOf o) (answers : N → Answers) where
  module _ {X : Type 0} (w : EntryAnswers X) where
    pub record AnswersFor (n : N) (e : X) (L : Path) : Type 0 where
      pub verdict : (u : Bool) (v : Data) → ((answers n).means v).accepts u ≡ w.verdict u e v
      pub asks_within : (u : Bool) (v : Data) → ((answers n).means v).asks of_asked u ≤ w.asked u e v
      pub faults : (u : Bool) (v : Data) (Q : Path) → (answers n).report u v Q ∼ w.faults u e v L Q
      pub evaluation : (u : Bool) (v : Data) (Q : Path) → (answers n).tree u v Q ≡ w.shown u e v L Q
      pub formed : (answers n).formed ≡ true
      pub forms : (answers n).forms ≡ w.placed e L

    -- an entry for each node
    abbrev pub AnswerEach : List N → List X → Path → Type 0
    AnswerEach ns es L = AllZip (λ n e. AnswersFor n e L) ns es

    module _ (ns : List N) (es : List X) (L : Path) (h : AnswerEach ns es L) where
      pub each_place : flat_map (λ n. (answers n).forms) ns ≡ flat_map (λ e. w.placed e L) es
      each_place = same_flat_map (λ n e. AnswersFor n e L) _ _ (λ n e a. a.forms) ns es h

      pub each_formed : list_all (λ n. (answers n).formed) ns ≡ true
      each_formed = all_hold (λ n e. AnswersFor n e L) _ (λ n e a. a.formed) ns es h

      pub each_length : length ns ≡ length es
      each_length = sym (AllZip-long (λ n e. AnswersFor n e L) ns es h)

      module _ (u : Bool) (v : Data) where
        pub each_accept : (every (λ n. (answers n).means v) ns).accepts u ≡ list_all (λ e. w.verdict u e v) es
        each_accept = every_accepts (λ n e. AnswersFor n e L) (λ n. (answers n).means v) u (λ e. w.verdict u e v) (λ n e a. a.verdict u v) ns es h

        pub each_ask : (every (λ n. (answers n).means v) ns).asks of_asked u ≤ sum_by (λ e. w.asked u e v) es
        each_ask = every_asks (λ n e. AnswersFor n e L) (λ n. (answers n).means v) u (λ e. w.asked u e v) (λ n e a. a.asks_within u v) ns es h

        pub each_find : (Q : Path) → flat_map (λ n. (answers n).report u v Q) ns ∼ flat_map (λ e. w.faults u e v L Q) es
        each_find Q = like_flat_map (λ n e. AnswersFor n e L) _ _ (λ n e a. a.faults u v Q) ns es h

        pub each_show : (Q : Path) → map (λ n. (answers n).tree u v Q) ns ≡ map (λ e. w.shown u e v L Q) es
        each_show Q = same_map (λ n e. AnswersFor n e L) _ _ (λ n e a. a.evaluation u v Q) ns es h

  -- there are as many nodes as entries
  pub each_count : (w : EntryAnswers (Name × Data)) (ns : List N) (es : Rows) (L : Path) → AnswerEach w ns es L → length ns ≡ length (keys_in es)
  each_count w ns es L h = each_length w ns es L h ∙ sym (length-map es (λ e. e.0))

  -- ---- entries that are schemas

  pub schema_answer : (n : N) (e : Name × Data) (L : Path) → StandsBy I answers n e.1 (L // e.0) → AnswersFor (schema_answers I.steps) n e L
  schema_answer n e L h = record { verdict = h.verdict; asks_within = h.asks_within; faults = h.faults; evaluation = h.evaluation; formed = h.formed; forms = h.forms }

  pub schemas_answer : (ns : List N) (es : Rows) (L : Path) → StandEach I answers ns es L → AnswerEach (schema_answers I.steps) ns es L
  schemas_answer ns es L h = AllZip-implies (λ n e. StandsBy I answers n e.1 (L // e.0)) (λ n e. AnswersFor (schema_answers I.steps) n e L) (λ n e s. schema_answer n e L s) ns es h

  -- ---- one node, the last of several

  -- the one place that is read has one node
  pub last_stands : (before : List N) {ns : List N} {n : N} {d : Data} {L : Path} → ns ≡ before ++ n ∷ [] → StandAt I answers Itself ns d L → StandsBy I answers n d L
  last_stands before {ns} {n} {d} {L} e h = by before (subst (λ l. StandAt I answers Itself l d L) e h)
    where
      by : (before : List N) → StandAt I answers Itself (before ++ n ∷ []) d L → StandsBy I answers n d L
      by [] g = g
      by (x ∷ []) g = absurd g
      by (x ∷ y ∷ before) g = absurd g

  -- and what was taken of it stands for it
  pub taken_stands : (ns : List N) (t : Option N) (d : Data) (L : Path) → IsLast ns t → StandAt I answers Itself ns d L → FillsPlace (λ n x. StandsBy I answers n x L) t (Some d)
  taken_stands ns None d L e h = subst (λ l. StandAt I answers Itself l d L) e h
  taken_stands ns (Some n) d L e h = last_stands e.0 e.1 h

-- ---- one, or several

-- what a validator of some things is to be: formed where each is, and placed before them, in the form for one or for several
abbrev pub HoldsEach : {X : Type 0} → (X → Bool) → (X → List Placed) → Form → Form → Path → List X → Bool → List Placed → Type 0
HoldsEach form stand single other L xs formed placed = (list_all form xs ≡ true → formed ≡ true) × (placed ≡ (L, one_or_other single other (length xs)) ∷ flat_map stand xs)

module _ {X : Type 0} (form : X → Bool) (stand : X → List Placed) (single other : Form) {L M : Path} (place : L ≡ M) (ys : List X) where
  several_hold : (xs : List X) → xs ≡ ys → length ys ≢ 1 → HoldsEach form stand single other M ys (not (is_one xs) && list_all form xs) ((L, other) ∷ flat_map stand xs)
  several_hold xs e many = (
    (λ h. and_from (not (is_one xs)) (list_all form xs) (ap not (ne_eqb (length xs) 1 (λ q. many (sym (ap length e) ∙ q)))) (ap (list_all form) e ∙ h)),
    λ i. (place i, ap (λ b. cond b single other) (sym (ne_eqb (length ys) 1 many)) i) ∷ flat_map stand (e i),
  )

  single_holds : (x : X) → ys ≡ x ∷ [] → HoldsEach form stand single other M ys (form x) ((L, single) ∷ stand x)
  single_holds x e = (
    (λ h. sym (and-true (form x)) ∙ ap (list_all form) (sym e) ∙ h),
    λ i. (place i, ap (λ l. one_or_other single other (length l)) (sym e) i) ∷ (sym (append-nil (stand x)) ∙ ap (flat_map stand) (sym e)) i,
  )

-- a map is of the size for so many names
pub map_sized : {N : Type 0} (m : PropertiesMap N) (n : ℕ) → IsMapFor n m → size_of m ≡ size_for n
map_sized (Small m) n h = sym (ap (λ b. cond b few_names many_names) (lt-ltb n HASHMAP_THRESHOLD h))
map_sized (Big m) n h = sym (ap (λ b. cond b few_names many_names) (le-ltb n HASHMAP_THRESHOLD h))

-- ---- maps of these names, and beside them these nodes

module _ {N : Type 0} (names : List Name) (ns : List N) where
  pub entries_zipped : (m : SmallMap N) → HasEntries names ns m → named m ≡ zip names ns
  entries_zipped m h = λ i. zip (h.0 i) (h.1 i)

  pub map_zipped : (m : PropertiesMap N) → IsMapOver names ns m → mapped m ≡ zip names ns
  map_zipped (Small m) h = entries_zipped m h
  map_zipped (Big m) h = λ i. zip (h.0 i) (h.1 i)

  -- as many nodes as names
  module _ (count : length ns ≡ length names) where
    pub paired : (ks : List Name) (v : Vec N Global) → ks ≡ names → v.items ≡ ns → is_paired ks v ≡ true
    paired ks v e h = eq-eqb (length ks) (length v.items) (ap length e ∙ sym count ∙ sym (ap length h))

    pub map_formed : (m : PropertiesMap N) → IsMapOver names ns m → IsMapFor (length names) m → is_map_formed m ≡ true
    map_formed (Small m) h size = and_from _ _ (ap (λ ks. nat_lt (length ks) HASHMAP_THRESHOLD) h.0 ∙ lt-ltb (length names) HASHMAP_THRESHOLD size) (paired m.names m.nodes h.0 h.1)
    map_formed (Big m) h size = and_from _ _ (ap (λ ks. not (nat_lt (length ks) HASHMAP_THRESHOLD)) h.0 ∙ ap not (le-ltb (length names) HASHMAP_THRESHOLD size)) (paired m.names m.nodes h.0 h.1)

module _ {K R N : Type 0} {o : Kit K R} (I : StepsOf o) (answers : N → Answers) where
  abbrev pub has_form : N → Bool
  has_form n = (answers n).formed

  abbrev pub is_formed : KeywordOver K R N → Bool
  is_formed k = validator_formed o has_form k

  pub just_one_formed : (k : KeywordOver K R N) → is_formed k ≡ true → list_all is_formed (k ∷ []) ≡ true
  just_one_formed k h = and-true (is_formed k) ∙ h

  abbrev pub stand_in : N → List Placed
  stand_in n = (answers n).forms

  abbrev pub stand_as : KeywordOver K R N → List Placed
  stand_as k = validator_forms o stand_in k

  -- ---- nodes

  pub stand_formed : (ns : List N) (es : Rows) (L : Path) → StandEach I answers ns es L → list_all has_form ns ≡ true
  stand_formed ns es L h = each_formed I answers (schema_answers I.steps) ns es L (schemas_answer I answers ns es L h)

  pub stand_placed : (ns : List N) (es : Rows) (L : Path) → StandEach I answers ns es L → flat_map stand_in ns ≡ each_placed I.steps L es
  stand_placed ns es L h = each_place I answers (schema_answers I.steps) ns es L (schemas_answer I answers ns es L h)

  -- ---- entries of these names and nodes

  module _ (ds : List (Name × N)) (ns : List N) (es : Rows) (L : Path) (held : ds ≡ zip (keys_in es) ns) where
    module _ (w : EntryAnswers (Name × Data)) (each : AnswerEach I answers w ns es L) where
      pub each_keys : keys_in ds ≡ keys_in es
      each_keys = ap keys_in held ∙ firsts-zip (keys_in es) ns (each_count I answers w ns es L each)

      pub each_nodes : nodes_in ds ≡ ns
      each_nodes = ap nodes_in held ∙ seconds-zip (keys_in es) ns (each_count I answers w ns es L each)

      pub each_held_formed : list_all has_form (nodes_in ds) ≡ true
      each_held_formed = ap (list_all has_form) each_nodes ∙ each_formed I answers w ns es L each

      pub each_held_placed : flat_map stand_in (nodes_in ds) ≡ flat_map (λ e. w.placed e L) es
      each_held_placed = ap (flat_map stand_in) each_nodes ∙ each_place I answers w ns es L each

  -- ---- validators

  pub required2_formed : (k : Box (SmallPropertiesWithRequired2 N) Global) → is_map_formed (Small k.value.properties) ≡ true → bytes_eq (string_bytes k.value.first) (string_bytes k.value.second) ≡ false
      → list_all has_form (nodes_in (named k.value.properties)) ≡ true → is_formed (keyword.PropertiesWithRequired2 k) ≡ true
  unfolding answers_of
  required2_formed k sized differ nodes = and_from _ _ (and_from _ _ sized (ap not differ)) nodes

  pub all_of_holds : (k : KeywordOver K R N) (L : Path) (ns : List N) → IsFormOfAllOf L ns k → HoldsEach has_form stand_in single_all_of_form all_of_form L ns (is_formed k) (stand_as k)
  unfolding answers_of
  all_of_holds (keyword.AllOf k) L ns f = several_hold has_form stand_in single_all_of_form all_of_form f.2 ns k.schemas.items f.0 f.1
  all_of_holds (keyword.SingleValueAllOf k) L ns f = single_holds has_form stand_in single_all_of_form all_of_form f.1 ns k.node f.0
  all_of_holds k L ns f = absurd f

  pub any_of_holds : (k : KeywordOver K R N) (L : Path) (ns : List N) → IsFormOfAnyOf L ns k → HoldsEach has_form stand_in single_any_of_form any_of_form L ns (is_formed k) (stand_as k)
  unfolding answers_of
  any_of_holds (keyword.AnyOf k) L ns f = several_hold has_form stand_in single_any_of_form any_of_form f.2 ns k.schemas.items f.0 f.1
  any_of_holds (keyword.SingleAnyOf k) L ns f = single_holds has_form stand_in single_any_of_form any_of_form f.1 ns k.node f.0
  any_of_holds k L ns f = absurd f

  pub one_of_holds : (k : KeywordOver K R N) (L : Path) (ns : List N) → IsFormOfOneOf L ns k → HoldsEach has_form stand_in single_one_of_form one_of_form L ns (is_formed k) (stand_as k)
  unfolding answers_of
  one_of_holds (keyword.OneOf k) L ns f = several_hold has_form stand_in single_one_of_form one_of_form f.2 ns k.schemas.items f.0 f.1
  one_of_holds (keyword.SingleOneOf k) L ns f = single_holds has_form stand_in single_one_of_form one_of_form f.1 ns k.node f.0
  one_of_holds k L ns f = absurd f

  -- over the branches of an array, as it is to stand at M
  pub branches_placed : (k : KeywordOver K R N) (L M : Path) (single other : Form) (ns : List N) (d : Data) → L ≡ M → stand_as k ≡ (L, one_or_other single other (length ns)) ∷ flat_map stand_in ns
      → StandEach I answers ns (numbered (items_of_array d)) L → flat_map stand_as (k ∷ []) ≡ (M, one_or_other single other (length (items_of_array d))) ∷ each_placed I.steps M (numbered (items_of_array d))
  branches_placed k L M single other ns d p is h = append-nil (stand_as k) ∙ is
      ∙ (λ i. (p i, one_or_other single other (branches_length I answers ns d L h i)) ∷ (stand_placed ns (numbered (items_of_array d)) L h ∙ ap (λ Z. each_placed I.steps Z (numbered (items_of_array d))) p) i)

  abbrev pub entry_formed : CompiledPattern R × N → Bool
  entry_formed e = has_form e.1

  pub patterns_hold : (k : KeywordOver K R N) (L : Path) (es : List (CompiledPattern R × N)) → IsFormOfPatternProperties L es k
      → HoldsEach entry_formed (λ e. stand_in e.1) single_pattern_form patterns_form L es (is_formed k) (stand_as k)
  unfolding answers_of
  patterns_hold (keyword.PatternProperties k) L es f = several_hold entry_formed (λ e. stand_in e.1) single_pattern_form patterns_form f.2 es k.patterns.items f.0 f.1
  patterns_hold (keyword.SingleValuePatternProperties k) L es f = single_holds entry_formed (λ e. stand_in e.1) single_pattern_form patterns_form f.1 es (k.value.regex, k.value.node) f.0
  patterns_hold k L es f = absurd f

  pub entries_placed : (es : List (CompiledPattern R × N)) (ds : Rows) (L : Path) → EntriesStand I answers es ds L → flat_map (λ e. stand_in e.1) es ≡ each_placed I.steps L ds
  entries_placed es ds L h = same_flat_map (λ e d. IsPattern o e.0 d.0 × StandsBy I answers e.1 d.1 (L // d.0)) _ _ (λ e d s. s.1.forms) es ds h

  abbrev pub case_in : Option N → List Placed
  case_in c = flat_map stand_in (option_to_list c)

  parts_of_two : (xs ys : List Placed) → (xs ++ ys) ≡ (xs ++ (ys ++ [])) ++ []
  parts_of_two xs ys = sym (append-nil (xs ++ (ys ++ [])) ∙ ap (λ l. xs ++ l) (append-nil ys))

  pub if_placed : (L : Path) (n : N) (t e : Option N) (k : KeywordOver K R N) → IsFormOfIf L n t e k
      → stand_as k ≡ (L, if_form (is_some t) (is_some e)) ∷ (stand_in n ++ case_in t ++ case_in e)
  unfolding answers_of
  if_placed L n (Some t) None (keyword.IfThen k) f = (λ i. (f.2 i, if_then_form) ∷ (stand_in (f.0 i) ++ stand_in (f.1 i))) ∙ ap (λ l. (L, if_then_form) ∷ l) (parts_of_two (stand_in n) (stand_in t))
  if_placed L n None (Some e) (keyword.IfElse k) f = (λ i. (f.2 i, if_else_form) ∷ (stand_in (f.0 i) ++ stand_in (f.1 i)))
      ∙ ap (λ l. (L, if_else_form) ∷ l) (sym (λ i. append-nil (stand_in n) i ++ append-nil (stand_in e) i))
  if_placed L n (Some t) (Some e) (keyword.IfThenElse k) f = (λ i. (f.3 i, if_then_else_form) ∷ (stand_in (f.0 i) ++ stand_in (f.1 i) ++ stand_in (f.2 i)))
      ∙ ap (λ l. (L, if_then_else_form) ∷ l) (sym (λ i. (stand_in n ++ append-nil (stand_in t) i) ++ append-nil (stand_in e) i))
  if_placed L n t e k f = absurd f

  pub case_as : (t : Option N) (a : Option Data) (L : Path) → FillsPlace (λ n d. StandsBy I answers n d L) t a → case_in t ≡ case_placed I.steps L a
  case_as None None L h = refl
  case_as (Some n) (Some d) L h = ap (λ l. l ++ []) h.forms
  case_as _ _ L h = absurd h

  abbrev pub case_formed : Option N → Bool
  case_formed c = option_map_or has_form c true

  pub if_formed : (L : Path) (n : N) (t e : Option N) (k : KeywordOver K R N) → IsFormOfIf L n t e k
      → has_form n ≡ true → case_formed t ≡ true → case_formed e ≡ true → is_formed k ≡ true
  unfolding answers_of
  if_formed L n (Some t) None (keyword.IfThen k) f h p q = and_from _ _ (ap has_form f.0 ∙ h) (ap has_form f.1 ∙ p)
  if_formed L n None (Some e) (keyword.IfElse k) f h p q = and_from _ _ (ap has_form f.0 ∙ h) (ap has_form f.1 ∙ q)
  if_formed L n (Some t) (Some e) (keyword.IfThenElse k) f h p q = and_from _ _ (and_from _ _ (ap has_form f.0 ∙ h) (ap has_form f.1 ∙ p)) (ap has_form f.2 ∙ q)
  if_formed L n t e k f h p q = absurd f
