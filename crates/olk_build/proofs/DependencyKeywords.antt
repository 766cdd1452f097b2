-- What holds `dependentRequired`, `dependentSchemas` and `dependencies`.
use Rattle.olk_build.proofs.Together.{by_its_name}
use Rattle.std.proofs.Common.{◌≡◌, Bool, true, false, not, cond, List, [], ◌∷◌, map, get_or, drop, codes, Option, Some, None, is_some, unwrap_or, Vec, String, Global, refl, sym, ◌∙◌, ap, subst, arith}
use Rattle.std.proofs.Common.{append-nil, true≢false, subst₂}
use Rattle.std.specs.List.{flat_map, zip}
use Rattle.serde_json.specs.Data.{Data, Members}
use Rattle.olk_spec.specs.Names.{Name, Path, ◌//◌, filter_once, put_if, is_empty}
use Rattle.olk_spec.specs.Schemas.{is_array, members, has, texts}
use Rattle.olk_base.specs.Kit.{Kit}
use Rattle.olk_meaning.specs.Dependencies.{due_entries, are_lists, list_answers, either_answers, dependency_answers}
use Rattle.olk_meaning.proofs.Dependencies.{dependent_required_told, dependent_schemas_told, dependencies_told}
use Rattle.olk_tree.specs.Questions.{always, of_asked}
use Rattle.olk_meaning.specs.Chosen.{Form, names_form, dependencies_form, dependent_required_form, dependent_schemas_form}
use Rattle.olk_meaning.proofs.Standing.{each_placed, dependency_placed, dependent_required_stands, dependent_schemas_stand, dependencies_stand}
use Rattle.olk_tree.specs.Dependencies.{due_nodes, due_answers}
use Rattle.olk_tree.specs.Maps.{keys_in, named}
use Rattle.olk_build.specs.Reading.{list_of, names_in, names_in_list}
use Rattle.olk_build.specs.Forms.{IsListAt, AreListsAt, AreInOrder, IsDependencies, IsDependentRequired, IsDependentSchemas}
use Rattle.olk_build.specs.{Standing.StandEach, Made.MakesDependencies}
use Rattle.olk_build.specs.Making.{KeywordMeans, MakesMember}
use Rattle.olk_build.proofs.Formed.{AnswersFor, AnswerEach, each_count, schema_answer, schemas_answer, has_form, is_formed, entries_zipped, paired, each_keys, each_held_formed, each_held_placed}
use Rattle.olk_build.proofs.Formed.{stand_in, stand_as}
use Rattle.olk_meaning.specs.Told.{EntryAnswers, entries_told, schema_answers}
use Rattle.olk_meaning.proofs.Rows.{Rows}
use Rattle.olk_build.proofs.Held.{AnswersTold, each_asks, nodes_told, means_told}
use Rattle.std.proofs.lemmas.List.Concat.{flat_map_single}
use Rattle.olk_spec.specs.{Accepts.missing, Reports.required_faults, Tree.erring}
use Rattle.olk_spec.proofs.{Order.∼_same, Truth.and_from}
use Rattle.olk_tree.specs.{declared.map.SmallMap.SmallMap, Validators.answers_of, declared.node.KeywordOver.KeywordOver, Answers.Answers}
use Rattle.olk_tree.specs.declared.node.KeywordOver.TheVariants as keyword
use Rattle.olk_build.specs.declared.shape.Shape.TheVariants as shape
use Rattle.olk_tree.specs.Steps.{StandsBy, StepsOf}

module _ {K R N : Type 0} {o : Kit K R} (I : StepsOf o) (answers : N → Answers) where
  -- the nodes of the entries that are due
  module _ (w : EntryAnswers (Name × Data)) where
    due_answer : (v : Data) (ns : List N) (es : Rows) (L : Path) → AnswerEach I answers w ns es L → AnswerEach I answers w
        (due_nodes (zip (keys_in es) ns) v) (filter_once (λ e. has e.0 v) es) L
    due_answer v [] [] L h = tt
    due_answer v (n ∷ ns) (e ∷ es) L h = by (has e.0 v) (due_answer v ns es L h.1)
      where
        by : (b : Bool) → AnswerEach I answers w (due_nodes (zip (keys_in es) ns) v) (filter_once (λ e. has e.0 v) es) L
            → AnswerEach I answers w (map (λ e. e.1) (put_if b (e.0, n) (filter_once (λ e. has e.0 v) (zip (keys_in es) ns)))) (put_if b e (filter_once (λ e. has e.0 v) es)) L
        by true k = (h.0, k)
        by false k = k
    due_answer v _ _ L h = absurd h

  -- ---- the validator

  -- one that answers as this map of what is due
  module _ (k : KeywordOver K R N) (form : Form) (m : SmallMap N) (ns : List N) (L : Path) (d : Data) (same : answers_of o k ≡ due_answers form m L) (names : m.names ≡ keys_in (members d)) (nodes : m.nodes.items ≡ ns) where
    held : named m ≡ zip (keys_in (members d)) ns
    held = entries_zipped (keys_in (members d)) ns m (names, nodes)

    module _ (w : EntryAnswers (Name × Data)) (each : AnswerEach I answers w ns (members d) L) where
      due_formed : is_formed I answers k ≡ true
      due_formed = ap (λ a. a.formed (has_form I answers)) same
          ∙ and_from _ _ (paired (keys_in (members d)) ns (each_count I answers w ns (members d) L each) m.names m.nodes names nodes) (each_held_formed I answers (named m) ns (members d) L held w each)

      due_placed : flat_map (stand_as I answers) (k ∷ []) ≡ (L, form) ∷ flat_map (λ e. w.placed e L) (members d)
      due_placed = append-nil (stand_as I answers k) ∙ ap (λ a. a.forms (stand_in I answers)) same ∙ ap (λ l. (L, form) ∷ l) (each_held_placed I answers (named m) ns (members d) L held w each)

      due_told : AnswersTold I answers k (entries_told w (due_entries d)) L
      due_told = nodes_told I answers w (due_entries d) k (due_nodes (named m)) L (each_asks I answers k (due_nodes (named m)) L _ _ same)
          (λ v. subst (λ ds. AnswerEach I answers w (due_nodes ds v) (due_entries d v) L) (sym held) (due_answer w v ns (members d) L each)) due_formed

    -- ---- the three keywords

    module _ (ms : Members) (P : Path) where
      pub means_dependent_required : form ≡ dependent_required_form → are_lists d ≡ true → AnswerEach I answers list_answers ns (members d) L → L ≡ P // codes "dependentRequired"
          → KeywordMeans I answers ms (k ∷ []) (codes "dependentRequired", d) P
      means_dependent_required kind lists each p = means_told I answers ms k (codes "dependentRequired", d) P L _ p (dependent_required_told I.steps ms d lists) (due_told list_answers each)
          (λ own. due_placed list_answers each ∙ (λ i. (p i, kind i) ∷ flat_map (λ e. (p i, names_form) ∷ []) (members d))
          ∙ ap (λ l. (P // codes "dependentRequired", dependent_required_form) ∷ l) (flat_map_single (λ e. (P // codes "dependentRequired", names_form)) (members d))
          ∙ sym (dependent_required_stands I.steps ms P d))

      pub means_dependent_schemas : form ≡ dependent_schemas_form → AnswerEach I answers (schema_answers I.steps) ns (members d) L → L ≡ P // codes "dependentSchemas"
          → KeywordMeans I answers ms (k ∷ []) (codes "dependentSchemas", d) P
      means_dependent_schemas kind each p = means_told I answers ms k (codes "dependentSchemas", d) P L _ p (dependent_schemas_told I.steps ms d) (due_told (schema_answers I.steps) each)
          (λ own. due_placed (schema_answers I.steps) each ∙ (λ i. (p i, kind i) ∷ each_placed I.steps (p i) (members d)) ∙ sym (dependent_schemas_stand I.steps ms P d))

      pub means_dependencies : form ≡ dependencies_form → AnswerEach I answers (dependency_answers I.steps) ns (members d) L → L ≡ P // codes "dependencies"
          → KeywordMeans I answers ms (k ∷ []) (codes "dependencies", d) P
      means_dependencies kind each p = means_told I answers ms k (codes "dependencies", d) P L _ p (dependencies_told I.steps ms d) (due_told (dependency_answers I.steps) each)
          (λ own. due_placed (dependency_answers I.steps) each ∙ (λ i. (p i, kind i) ∷ flat_map (dependency_placed I.steps (p i)) (members d)) ∙ sym (dependencies_stand I.steps ms P d))

  -- ---- what is made of lists and nodes

  list_answer : (v : Vec (String Global) Global) (n : N) (e : Name × Data) (L : Path) → IsListAt o answers L v n → names_in v ≡ texts e.1 → AnswersFor I answers list_answers n e L
  list_answer v n e L is same = record {
    verdict = λ u x. ap (λ q. q.accepts u) (means x);
    asks_within = λ u x. let q = ap (λ q. q.asks of_asked u) (means x) in omega (arith, q);
    faults = λ u x Q. ∼_same (is.answers_by.faults u x Q ∙ listed x Q);
    evaluation = λ u x Q. is.answers_by.evaluation u x Q ∙ ap (erring L Q) (listed x Q);
    formed = is.answers_by.formed;
    forms = is.answers_by.forms;
  }
    where
      names : names_in is.boxed.value.required ≡ texts e.1
      names = ap names_in is.holds.0 ∙ same

      means : (x : Data) → (answers n).means x ≡ always (is_empty (missing (texts e.1) x))
      means x = is.answers_by.verdict x ∙ ap (λ ns. always (is_empty (missing ns x))) names

      listed : (x : Data) (Q : Path) → required_faults (names_in is.boxed.value.required) x is.boxed.value.location Q ≡ required_faults (texts e.1) x L Q
      listed x Q = subst₂ (λ ns P. required_faults (names_in is.boxed.value.required) x is.boxed.value.location Q ≡ required_faults ns x P Q) names is.holds.1 refl

  lists_answer : (vs : List (Vec (String Global) Global)) (ns : List N) (es : Rows) (L : Path) → AreListsAt o answers L vs ns
      → map names_in vs ≡ map (λ e. texts e.1) es → AnswerEach I answers list_answers ns es L
  lists_answer [] [] [] L h q = tt
  lists_answer [] [] (e ∷ es) L h q = absurd (true≢false (ap is_empty q))
  lists_answer (v ∷ vs) (n ∷ ns) [] L h q = absurd (true≢false (sym (ap is_empty q)))
  lists_answer (v ∷ vs) (n ∷ ns) (e ∷ es) L h q = (list_answer v n e L h.0 (ap (λ l. get_or l 0 []) q), lists_answer vs ns es L h.1 (ap (drop 1) q))
  lists_answer _ _ es L h q = absurd h

  -- the node of a list, or of a schema, is that of an entry of `dependencies`
  is_dependency : (n : N) (e : Name × Data) (L : Path) (is_list : Bool) → is_array e.1 ≡ is_list → AnswersFor I answers (either_answers I.steps (λ d. is_list)) n e L
      → AnswersFor I answers (dependency_answers I.steps) n e L
  is_dependency n e L is_list a answer =
      let h = subst (λ b. AnswersFor I answers (either_answers I.steps (λ d. b)) n e L) (sym a) answer in
      record { verdict = h.verdict; asks_within = h.asks_within; faults = h.faults; evaluation = h.evaluation; formed = h.formed; forms = h.forms }

  abbrev schemas_among : Rows → Rows
  schemas_among es = filter_once (λ e. not (is_array e.1)) es

  dependencies_answer : (vs : List (Option (Vec (String Global) Global))) (schemas ns : List N) (es : Rows) (L : Path)
      → AreInOrder o answers L vs schemas ns → map names_in_list vs ≡ map (λ e. list_of e.1) es → StandEach I answers schemas (schemas_among es) L → AnswerEach I answers (dependency_answers I.steps) ns es L
  dependencies_answer [] schemas ns [] L h q stand = subst (λ l. AnswerEach I answers (dependency_answers I.steps) l [] L) (sym h) tt
  dependencies_answer [] schemas ns (e ∷ es) L h q stand = absurd (true≢false (ap is_empty q))
  dependencies_answer (v ∷ vs) schemas ns [] L h q stand = absurd (true≢false (sym (ap is_empty q)))
  dependencies_answer (v ∷ vs) schemas ns (e ∷ es) L h q stand =
      by v (is_array e.1) refl schemas ns h (ap (λ l. get_or l 0 None) q) stand (λ rest others g k. dependencies_answer vs rest others es L g (ap (drop 1) q) k)
    where
      by : (v : Option (Vec (String Global) Global)) (b : Bool) → is_array e.1 ≡ b → (schemas ns : List N) → AreInOrder o answers L (v ∷ vs) schemas ns
          → names_in_list v ≡ cond b (Some (texts e.1)) None → StandEach I answers schemas (put_if (not b) e (schemas_among es)) L
          → ((schemas ns : List N) → AreInOrder o answers L vs schemas ns → StandEach I answers schemas (schemas_among es) L → AnswerEach I answers (dependency_answers I.steps) ns es L)
          → AnswerEach I answers (dependency_answers I.steps) ns (e ∷ es) L
      by (Some v) true a schemas [] h same stand later = absurd h
      by (Some v) true a schemas (n ∷ ns) h same stand later = (is_dependency n e L true a (list_answer v n e L h.0 (ap (λ x. unwrap_or x []) same)), later schemas ns h.1 stand)
      by None false a [] ns h same stand later = absurd stand
      by None false a (s ∷ schemas) [] h same stand later = absurd h
      by None false a (s ∷ schemas) (n ∷ ns) h same stand later =
          (is_dependency n e L false a (schema_answer I answers n e L (subst (λ x. StandsBy I answers x e.1 (L // e.0)) (sym h.0) stand.0)), later schemas ns h.1 stand.1)
      by (Some v) false a schemas ns h same stand later = absurd (true≢false (ap is_some same))
      by None true a schemas ns h same stand later = absurd (true≢false (sym (ap is_some same)))

  -- ---- what is made of these keys, each with its node

  module _ (keys : List Name) (nodes : Vec N Global) (L : Path) where
    abbrev due : SmallMap N
    due = record { names = keys; nodes = nodes }

    required_answers : answers_of o (keyword.DependentRequired (record { dependencies = due; location = L })) ≡ due_answers dependent_required_form due L
    unfolding answers_of
    required_answers = refl

    schemas_answers : answers_of o (keyword.DependentSchemas (record { dependencies = due; location = L })) ≡ due_answers dependent_schemas_form due L
    unfolding answers_of
    schemas_answers = refl

    both_answers : answers_of o (keyword.Dependencies (record { dependencies = due; location = L })) ≡ due_answers dependencies_form due L
    unfolding answers_of
    both_answers = refl

    keys_are : (d : Data) → keys ≡ keys_in (members d) → (w : EntryAnswers (Name × Data)) → AnswerEach I answers w nodes.items (members d) L → keys_in (named due) ≡ keys_in (members d)
    keys_are d names w each = each_keys I answers (named due) nodes.items (members d) L (ap (λ ks. zip ks nodes.items) names) w each

    module _ (lists : Vec (Vec (String Global) Global) Global) (is : AreListsAt o answers L lists.items nodes.items) where
      pub makes_dependent_required : MakesMember I answers (shape.DependentRequired keys lists) L [] (keyword.DependentRequired (record { dependencies = due; location = L }) ∷ [])
      makes_dependent_required ms x P p s h = by_its_name I answers s.0 p
          (means_dependent_required _ dependent_required_form due nodes.items L x.1 required_answers s.2 refl ms P refl s.3 (lists_answer lists.items nodes.items (members x.1) L is s.4))

      pub keys_of_dependent_required : MakesDependencies I answers (shape.DependentRequired keys lists) L [] IsDependentRequired (keyword.DependentRequired (record { dependencies = due; location = L }))
      keys_of_dependent_required x s h = (keys_are x.1 s.2 list_answers (lists_answer lists.items nodes.items (members x.1) L is s.4), refl)

    pub makes_dependent_schemas : MakesMember I answers (shape.DependentSchemas keys) L nodes.items (keyword.DependentSchemas (record { dependencies = due; location = L }) ∷ [])
    makes_dependent_schemas ms x P p s h = by_its_name I answers s.0 p
        (means_dependent_schemas _ dependent_schemas_form due nodes.items L x.1 schemas_answers s.2 refl ms P refl (schemas_answer I answers nodes.items (members x.1) L h))

    pub keys_of_dependent_schemas : MakesDependencies I answers (shape.DependentSchemas keys) L nodes.items IsDependentSchemas (keyword.DependentSchemas (record { dependencies = due; location = L }))
    keys_of_dependent_schemas x s h = (keys_are x.1 s.2 (schema_answers I.steps) (schemas_answer I answers nodes.items (members x.1) L h), refl)

    module _ (lists : Vec (Option (Vec (String Global) Global)) Global) (schemas : List N) (is : AreInOrder o answers L lists.items schemas nodes.items) where
      pub makes_dependencies : MakesMember I answers (shape.Dependencies keys lists) L schemas (keyword.Dependencies (record { dependencies = due; location = L }) ∷ [])
      makes_dependencies ms x P p s h = by_its_name I answers s.0 p
          (means_dependencies _ dependencies_form due nodes.items L x.1 both_answers s.2 refl ms P refl (dependencies_answer lists.items schemas nodes.items (members x.1) L is s.3 h))

      pub keys_of_dependencies : MakesDependencies I answers (shape.Dependencies keys lists) L schemas IsDependencies (keyword.Dependencies (record { dependencies = due; location = L }))
      keys_of_dependencies x s h = (keys_are x.1 s.2 (dependency_answers I.steps) (dependencies_answer lists.items schemas nodes.items (members x.1) L is s.3 h), refl)

-- ---- nodes in order, made one after the other

-- made of the lists and of the schemas' nodes that are left
abbrev pub MadeInOrder : {K R N : Type 0} → Kit K R → (N → Answers) → Path → List (Option (Vec (String Global) Global)) × List N → List N → Type 0
MadeInOrder o answers L x ns = AreInOrder o answers L x.0 x.1 ns

module _ {K R N : Type 0} (o : Kit K R) (answers : N → Answers) (L : Path) (left after : List (Option (Vec (String Global) Global))) (schemas others rest : List N) where
  pub list_next : (v : Vec (String Global) Global) (n : N) → left ≡ Some v ∷ after → IsListAt o answers L v n → MadeInOrder o answers L (after, schemas) rest
      → MadeInOrder o answers L (left, schemas) (n ∷ rest)
  list_next v n e is h = subst (λ ls. AreInOrder o answers L ls schemas (n ∷ rest)) (sym e) (is, h)

  pub schema_next : (n : N) → left ≡ None ∷ after → schemas ≡ n ∷ others → MadeInOrder o answers L (after, others) rest → MadeInOrder o answers L (left, schemas) (n ∷ rest)
  schema_next n e s h = subst₂ (λ ls ns. AreInOrder o answers L ls ns (n ∷ rest)) (sym e) (sym s) (refl, h)

  pub no_schema_next : left ≡ None ∷ after → schemas ≡ [] → others ≡ [] → MadeInOrder o answers L (after, others) rest → MadeInOrder o answers L (left, schemas) rest
  no_schema_next e s q h = subst₂ (λ ls ns. AreInOrder o answers L ls ns rest) (sym e) (sym s) (subst (λ ns. AreInOrder o answers L after ns rest) q h)
