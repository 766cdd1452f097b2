-- `propertyDependencies`: what is made of the nodes at its texts.
use Rattle.olk_build.proofs.Together.{by_its_name}
use Rattle.std.proofs.Common.{◌≡◌, true, false, List, [], ◌∷◌, map, get_or, drop, codes, Vec, ℕ, min, ◌&&◌, ◌++◌, length, take, option_to_list, bytes_eq, Global, refl, sym, ◌∙◌, ap, subst, append-nil}
use Rattle.std.proofs.Common.{take_at, drop_at, true≢false, nat_cmp, is_eq, Ordering, Less, Equal, Greater}
use Rattle.std.specs.List.{flat_map, zip, list_all, AllZip}
use Rattle.std.proofs.lemmas.List.{take_min, drop_min, length-map}
use Rattle.serde_json.specs.Data.{Data, Members}
use Rattle.olk_spec.specs.Names.{Name, Path, ◌//◌, is_empty, lookup_name, first_if_equal}
use Rattle.olk_spec.specs.Schemas.{members, texts, at, as_text}
use Rattle.olk_base.specs.Kit.{Kit}
use Rattle.olk_meaning.proofs.{PropertyDependencies.property_dependencies_told, Rows.Rows}
use Rattle.olk_meaning.specs.{Chosen.property_dependencies_form, Told.schema_answers}
use Rattle.olk_meaning.proofs.Standing.{each_placed, property_dependencies_stand}
use Rattle.olk_tree.specs.Maps.{keys_in, named, nodes_in}
use Rattle.olk_build.specs.Reading.{names_of}
use Rattle.olk_build.specs.Forms.{HasEntries, AreCut, IsPropertyDependencies}
use Rattle.olk_build.specs.{Standing.StandInner, Made.MakesPropertyDependencies}
use Rattle.olk_build.specs.Making.{KeywordMeans, MakesMember}
use Rattle.olk_build.proofs.Formed.{AnswersFor, AnswerEach, each_count, schemas_answer, has_form, entries_zipped, paired, each_keys, each_held_formed, each_held_placed, stand_in, stand_as}
use Rattle.olk_build.proofs.Held.{each_asks, nodes_told, means_told}
use Rattle.std.specs.Cmp.Lexicographic.{slice_cmp}
use Rattle.std.proofs.lemmas.Map.Text.{is_eq-slice_cmp}
use Rattle.std.proofs.lemmas.Slice.Zip.{firsts-zip, seconds-zip, AllZip-long}
use Rattle.olk_meaning.specs.PropertyDependencies.{chosen, chosen_by, choices, choice_answers}
use Rattle.olk_tree.specs.PropertyDependencies.{chosen_at, chosen_nodes}
use Rattle.olk_build.proofs.Pairs.{AllZip-append, all_hold, same_map, same_flat_map}
use Rattle.olk_spec.proofs.{Truth.and_from, Walks.same_name}
use Rattle.olk_tree.specs.{declared.map.SmallMap.SmallMap, Validators.answers_of, declared.node.KeywordOver.KeywordOver, Answers.Answers, Formed.is_paired}
use Rattle.olk_tree.specs.declared.node.KeywordOver.TheVariants as keyword
use Rattle.olk_build.specs.declared.shape.Shape.TheVariants as shape
use Rattle.olk_tree.specs.Steps.{StepsOf}

-- maps, made of the lists of names and the nodes that are left
abbrev pub MadeByCutting : {N : Type 0} → List (List Name) × List N → List (SmallMap N) → Type 0
MadeByCutting x maps = AreCut x.0 x.1 maps

-- as many nodes are taken as are wanted, or all
module _ {N : Type 0} (n : ℕ) (ns taken left : List N) (parts : ns ≡ taken ++ left) (count : length taken ≡ min n (length ns)) where
  pub taken_first : taken ≡ take n ns
  taken_first = sym (take_at taken left (length taken) refl) ∙ (λ i. take (count i) (sym parts i)) ∙ take_min n ns

  pub left_behind : left ≡ drop n ns
  left_behind = sym (drop_at taken left (length taken) refl) ∙ (λ i. drop (count i) (sym parts i)) ∙ drop_min n ns

  -- with names beside the nodes that are taken, one map more is cut
  pub one_cut : (names : List Name) → length names ≡ n → (m : SmallMap N) → HasEntries names taken m → (ts : List (List Name)) (maps : List (SmallMap N))
      → AreCut ts left maps → AreCut (names ∷ ts) ns (m ∷ maps)
  one_cut names len m held ts maps h =
      ((held.0, held.1 ∙ taken_first ∙ ap (λ k. take k ns) (sym len)), subst (λ l. AreCut ts l maps) (left_behind ∙ ap (λ k. drop k ns) (sym len)) h)

module _ {K R N : Type 0} {o : Kit K R} (I : StepsOf o) (answers : N → Answers) where
  abbrev SchemaFor : N → Name × Data → Path → Type 0
  SchemaFor = AnswersFor I answers (schema_answers I.steps)

  abbrev SchemaEach : List N → Rows → Path → Type 0
  SchemaEach = AnswerEach I answers (schema_answers I.steps)

  -- ---- the nodes that are chosen stand for the schemas that are

  module _ {X : Type 0} (f : X → List N) (g : X → Rows) (L : Path) (each : (x : X) → SchemaEach (f x) (g x) L) where
    each_of_all : (xs : List X) → SchemaEach (flat_map f xs) (flat_map g xs) L
    each_of_all [] = tt
    each_of_all (x ∷ xs) = AllZip-append (λ n e. SchemaFor n e L) (f x) (flat_map f xs) (g x) (flat_map g xs) (each x) (each_of_all xs)

  -- what a look-up finds among the nodes, and among the entries
  found_answers : (t : Name) (ns : List N) (es : Rows) (L : Path) → SchemaEach ns es L → SchemaEach (option_to_list (lookup_name t (zip (keys_in es) ns)))
      (map (λ s. (t, s)) (option_to_list (lookup_name t es))) L
  found_answers t [] [] L h = tt
  found_answers t (n ∷ ns) (e ∷ es) L h = by (slice_cmp nat_cmp t e.0) (is_eq-slice_cmp t e.0) (found_answers t ns es L h.1)
    where
      by : (c : Ordering) → is_eq c ≡ bytes_eq t e.0 → SchemaEach (option_to_list (lookup_name t (zip (keys_in es) ns))) (map (λ s. (t, s)) (option_to_list (lookup_name t es))) L
          → SchemaEach (option_to_list (first_if_equal c n (lookup_name t (zip (keys_in es) ns)))) (map (λ s. (t, s)) (option_to_list (first_if_equal c e.1 (lookup_name t es)))) L
      by Less q k = k
      by Equal q k = (subst (λ a. SchemaFor n (a, e.1) L) (sym (same_name t e.0 (sym q))) h.0, tt)
      by Greater q k = k
  found_answers t _ _ L h = absurd h

  -- a map whose nodes stand for what is in the entry
  record MapAnswers (m : SmallMap N) (e : Name × Data) (L : Path) : Type 0 where
    nodes : List N
    entries : HasEntries (names_of e.1) nodes m
    held : named m ≡ zip (names_of e.1) nodes
    each : SchemaEach nodes (members e.1) (L // e.0)

  -- a map for each entry
  abbrev MapsAnswer : List (SmallMap N) → Rows → Path → Type 0
  MapsAnswer maps es L = AllZip (λ m e. MapAnswers m e L) maps es

  module _ (maps : List (SmallMap N)) (es : Rows) (L : Path) (h : MapsAnswer maps es L) where
    maps_formed : list_all (λ m. is_paired m.names m.nodes && list_all (has_form I answers) (nodes_in (named m))) maps ≡ true
    maps_formed = all_hold (λ m e. MapAnswers m e L) _ (λ m e a. and_from _ _
        (paired (names_of e.1) a.nodes (each_count I answers _ _ _ _ a.each) m.names m.nodes a.entries.0 a.entries.1) (each_held_formed I answers (named m) _ _ _ a.held _ a.each)) maps es h

    -- the names of each
    maps_names : map (λ m. keys_in (named m)) maps ≡ map (λ e. names_of e.1) es
    maps_names = same_map (λ m e. MapAnswers m e L) _ _ (λ m e a. each_keys I answers (named m) _ _ _ a.held _ a.each) maps es h

    -- as many as entries
    maps_count : length maps ≡ length (keys_in es)
    maps_count = sym (AllZip-long (λ m e. MapAnswers m e L) maps es h) ∙ sym (length-map es (λ e. e.0))

    maps_placed : flat_map (λ m. flat_map (stand_in I answers) (nodes_in (named m))) maps ≡ flat_map (λ e. each_placed I.steps (L // e.0) (members e.1)) es
    maps_placed = same_flat_map (λ m e. MapAnswers m e L) _ _ (λ m e a. each_held_placed I answers (named m) _ _ _ a.held _ a.each) maps es h

  module _ (v : Data) where
    chosen_answer : (m : SmallMap N) (e : Name × Data) (L : Path) → MapAnswers m e L → SchemaEach (flat_map (chosen_at m) (at e.0 v)) (chosen v e) (L // e.0)
    chosen_answer m e L h = each_of_all (chosen_at m) (chosen_by e.1) (L // e.0)
        (λ w. each_of_all (λ t. option_to_list (lookup_name t (named m))) (λ t. map (λ s. (t, s)) (at t e.1)) (L // e.0)
        (λ t. subst (λ ds. SchemaEach (option_to_list (lookup_name t ds)) (map (λ s. (t, s)) (at t e.1)) (L // e.0)) (sym h.held) (found_answers t h.nodes (members e.1) (L // e.0) h.each)) (as_text w)) (at e.0 v)

    abbrev chosen_of : List (SmallMap N) → Rows → List N
    chosen_of maps es = chosen_nodes (zip (keys_in es) maps) v

    -- schemas of an entry, told of the keyword
    under_key : (k : Name) (ns : List N) (cs : Rows) (L : Path) → SchemaEach ns cs (L // k) → AnswerEach I answers (choice_answers I.steps) ns (map (λ c. (k, c.0, c.1)) cs) L
    under_key k [] [] L h = tt
    under_key k (n ∷ ns) (c ∷ cs) L h = (
      record { verdict = h.0.verdict; asks_within = h.0.asks_within; faults = h.0.faults; evaluation = h.0.evaluation; formed = h.0.formed; forms = h.0.forms },
      under_key k ns cs L h.1,
    )
    under_key k _ _ L h = absurd h

    choices_answer : (maps : List (SmallMap N)) (es : Rows) (L : Path) → MapsAnswer maps es L → AnswerEach I answers (choice_answers I.steps) (chosen_of maps es) (choices es v) L
    choices_answer [] [] L h = tt
    choices_answer (m ∷ maps) (e ∷ es) L h = AllZip-append (λ n c. AnswersFor I answers (choice_answers I.steps) n c L) (flat_map (chosen_at m) (at e.0 v)) (chosen_of maps es) (map (λ c. (e.0, c.0, c.1)) (chosen v e)) (choices es v)
        (under_key e.0 (flat_map (chosen_at m) (at e.0 v)) (chosen v e) L (chosen_answer m e L h.0)) (choices_answer maps es L h.1)
    choices_answer _ _ L h = absurd h

  -- ---- the validator

  abbrev choices_of : SmallMap (SmallMap N) → Path → KeywordOver K R N
  choices_of m L = keyword.PropertyDependencies (record { dependencies = m; location = L })

  module _ (m : SmallMap (SmallMap N)) (maps : List (SmallMap N)) (L : Path) (d : Data) (names : m.names ≡ names_of d) (nodes : m.nodes.items ≡ maps) (stand : MapsAnswer maps (members d) L) where
    keyed : named m ≡ zip (names_of d) maps
    keyed = entries_zipped (names_of d) maps m (names, nodes)

    held_maps : nodes_in (named m) ≡ maps
    held_maps = ap nodes_in keyed ∙ seconds-zip (names_of d) maps (maps_count maps (members d) L stand)

    choices_are : IsPropertyDependencies {K = K} {R = R} L (names_of d) (map (λ e. names_of e.1) (members d)) (choices_of m L)
    choices_are = (
      ap keys_in keyed ∙ firsts-zip (names_of d) maps (maps_count maps (members d) L stand),
      ap (map (λ m. keys_in (named m))) held_maps ∙ maps_names maps (members d) L stand,
      refl,
    )

    means_property_dependencies : (ms : Members) (P : Path) → L ≡ P // codes "propertyDependencies" → KeywordMeans I answers ms (choices_of m L ∷ []) (codes "propertyDependencies", d) P
    unfolding answers_of
    means_property_dependencies ms P p =
        means_told I answers ms (choices_of m L) (codes "propertyDependencies", d) P L _ p (property_dependencies_told I.steps ms d)
        (nodes_told I answers (choice_answers I.steps) (choices (members d)) (choices_of m L) (chosen_nodes (named m)) L (each_asks I answers (choices_of m L) (chosen_nodes (named m)) L _ _ refl)
        (λ v. subst (λ ds. AnswerEach I answers (choice_answers I.steps) (chosen_nodes ds v) (choices (members d) v) L) (sym keyed) (choices_answer v maps (members d) L stand))
        (and_from _ _ (paired (names_of d) maps (maps_count maps (members d) L stand) m.names m.nodes names nodes)
        (ap (list_all (λ m. is_paired m.names m.nodes && list_all (has_form I answers) (nodes_in (named m)))) held_maps ∙ maps_formed maps (members d) L stand)))
        (λ own. append-nil (stand_as I answers (choices_of m L)) ∙ ap (λ l. (L, property_dependencies_form) ∷ flat_map (λ m. flat_map (stand_in I answers) (nodes_in (named m))) l) held_maps
        ∙ ap (λ l. (L, property_dependencies_form) ∷ l) (maps_placed maps (members d) L stand)
        ∙ (λ i. (p i, property_dependencies_form) ∷ flat_map (λ e. each_placed I.steps (p i // e.0) (members e.1)) (members d)) ∙ sym (property_dependencies_stand I.steps ms P d))

  -- ---- what is made of the nodes

  maps_answer : (ts : List (List Name)) (ns : List N) (maps : List (SmallMap N)) (es : Rows) (L : Path) → AreCut ts ns maps
      → ts ≡ map (λ e. names_of e.1) es → StandInner I answers ns es L → MapsAnswer maps es L
  maps_answer [] ns [] [] L h q stand = tt
  maps_answer [] ns [] (e ∷ es) L h q stand = absurd (true≢false (ap is_empty q))
  maps_answer (t ∷ ts) ns (m ∷ maps) [] L h q stand = absurd (true≢false (sym (ap is_empty q)))
  maps_answer (t ∷ ts) ns (m ∷ maps) (e ∷ es) L h q stand =
      let here = stand.0 in
      let after = stand.1 in
      let name : t ≡ names_of e.1 = ap (λ l. get_or l 0 []) q in
      let each = schemas_answer I answers _ _ _ stand.3 in
      let count : length here ≡ length t = each_count I answers _ _ _ _ each ∙ sym (ap length name) in
      let first : take (length t) ns ≡ here = ap (take (length t)) stand.2 ∙ take_at here after (length t) count in (
        record {
          nodes = here;
          entries = (h.0.0 ∙ name, h.0.1 ∙ first);
          held = entries_zipped (names_of e.1) here m (h.0.0 ∙ name, h.0.1 ∙ first);
          each = each;
        },
        maps_answer ts (drop (length t) ns) maps es L h.1 (ap (drop 1) q) (subst (λ l. StandInner I answers l es L) (sym (ap (drop (length t)) stand.2 ∙ drop_at here after (length t) count)) stand.4),
      )
  maps_answer _ ns _ es L h q stand = absurd h

  module _ (keys : List Name) (maps : Vec (SmallMap N) Global) (texts : Vec (List Name) Global) (ns : List N) (L : Path) (is : AreCut texts.items ns maps.items) where
    abbrev together : SmallMap (SmallMap N)
    together = record { names = keys; nodes = maps }

    pub makes_property_dependencies : MakesMember I answers (shape.PropertyDependencies keys texts) L ns (choices_of together L ∷ [])
    makes_property_dependencies ms x P p s h = by_its_name I answers s.0 p
        (means_property_dependencies together maps.items L x.1 s.2 refl (maps_answer texts.items ns maps.items (members x.1) L is s.3 h) ms P)

    pub keys_of_property_dependencies : MakesPropertyDependencies I answers (shape.PropertyDependencies keys texts) L ns (choices_of together L)
    keys_of_property_dependencies x s h = choices_are together maps.items L x.1 s.2 refl (maps_answer texts.items ns maps.items (members x.1) L is s.3 h)
