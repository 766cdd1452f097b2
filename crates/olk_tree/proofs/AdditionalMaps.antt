-- What `additionalProperties` asks, finds and shows over the answers of nodes is what it does over the nodes.
use Rattle.std.specs.Prelude.{◌≡◌, ℕ, ◌+◌, Bool, true, false, not, cond, ◌&&◌, ◌||◌, List, [], ◌∷◌, ◌++◌, map, Option, Some, None, is_none, is_some, option_map, option_to_list}
use Rattle.std.specs.List.{flat_map, enumerate_from, zip}
use Rattle.std.proofs.Common.{refl, sym, ap, ◌∙◌}
use Rattle.std.proofs.lemmas.List.{map-append}
use Rattle.serde_json.specs.Data.{Data}
use Rattle.olk_spec.specs.Faults.{Fault}
use Rattle.olk_spec.specs.Names.{Name, Path, ◌//◌, lookup_name, filter_once, put_if, is_empty}
use Rattle.olk_spec.specs.Schemas.{is_object, members, at}
use Rattle.olk_spec.specs.Tree.{Tree, node, no_tree, described, result}
use Rattle.olk_spec.specs.Reports.{unexpected_faults}
use Rattle.olk_spec.specs.World.{Says, reads_as}
use Rattle.olk_spec.proofs.Maps.{flat_map-map, map-map, is_empty-map}
use Rattle.olk_base.specs.Compiled.{pattern_answers, pattern_costs}
use Rattle.olk_base.specs.declared.pattern.CompiledPattern.{CompiledPattern}
use Rattle.olk_tree.specs.Questions.{Question, always, said_to, both, conditional, every}
use Rattle.olk_tree.specs.Firsts.{or_else, first_of}
use Rattle.olk_tree.specs.Additional.{Sides, known_at, known_or, known_or_asked, matching_from, at_name, nodes_matching, is_additional, others_asked, nodes_asked, is_unexpected, unexpected, repeats, declared_means, rest_means, patterns_mean_from, member_means, others_mean, additional_means, additional_report, additional_first, additional_names, matched_names, additional_tree}
use Rattle.olk_tree.specs.Maps.{keys_in, nodes_in, placed_entries}
use Rattle.olk_tree.proofs.Maps.{with_name, lookup_name-map, every-map, first_of-map}

module _ {X Y : Type 0} (h : Y → X) where
  abbrev pub at_place : ℕ × Y → ℕ × X
  at_place f = (f.0, h f.1)

  abbrev pub with_node : {R : Type 0} → CompiledPattern R × Y → CompiledPattern R × X
  with_node e = (e.0, h e.1)

  abbrev pub with_place : Name × (ℕ × Y) → Name × (ℕ × X)
  with_place e = (e.0, at_place e.1)

  -- one has what the other has, where the nodes are taken for what stands for them
  pub record Mapped {R : Type 0} (S : Sides R X) (T : Sides R Y) : Type 0 where
    pub declared : S.declared ≡ map with_place T.declared
    pub at : (n : Name) → at_name S n ≡ option_map at_place (at_name T n)
    pub patterns : S.patterns ≡ map with_node T.patterns
    pub known : S.known ≡ T.known
    pub rest : S.rest ≡ option_map h T.rest

  placed_from-map : (i : ℕ) (es : List (Name × Y)) → zip (keys_in (map (with_name h) es)) (enumerate_from i (nodes_in (map (with_name h) es)))
      ≡ map with_place (zip (keys_in es) (enumerate_from i (nodes_in es)))
  placed_from-map i [] = refl
  placed_from-map i (e ∷ es) = ap (λ l. (e.0, (i, h e.1)) ∷ l) (placed_from-map (i + 1) es)

  pub placed_entries-map : (es : List (Name × Y)) → placed_entries (map (with_name h) es) ≡ map with_place (placed_entries es)
  placed_entries-map es = placed_from-map 0 es

  pub lookup_placed-map : (es : List (Name × Y)) (n : Name) → lookup_name n (placed_entries (map (with_name h) es)) ≡ option_map at_place (lookup_name n (placed_entries es))
  lookup_placed-map es n = ap (lookup_name n) (placed_entries-map es) ∙ lookup_name-map at_place n (placed_entries es)

  put-map : (b : Bool) (y : Y) (ys : List Y) → put_if b (h y) (map h ys) ≡ map h (put_if b y ys)
  put-map true y ys = refl
  put-map false y ys = refl

  node-map : (o : Option (ℕ × Y)) → option_to_list (option_map {U = X} (λ f. f.1) (option_map at_place o)) ≡ map h (option_to_list (option_map {U = Y} (λ f. f.1) o))
  node-map None = refl
  node-map (Some f) = refl

  rest-map : (b : Bool) (o : Option Y) → cond b (option_to_list (option_map h o)) [] ≡ map h (cond b (option_to_list o) [])
  rest-map false o = refl
  rest-map true None = refl
  rest-map true (Some y) = refl

  none-map : {A B : Type 0} (g : A → B) (o : Option A) → is_none (option_map g o) ≡ is_none o
  none-map g None = refl
  none-map g (Some a) = refl

  some-map : {A B : Type 0} (g : A → B) (o : Option A) → is_some (option_map g o) ≡ is_some o
  some-map g None = refl
  some-map g (Some a) = refl

  module _ {R : Type 0} (answers : R → Name → Says) {S : Sides R X} {T : Sides R Y} (same : Mapped S T) where
    known-map : (d : Option (ℕ × Y)) (i : ℕ) → known_at S (option_map at_place d) i ≡ known_at T d i
    known-map None i = refl
    known-map (Some f) i = ap (λ k. k f.0 i) same.known

    module _ (u : Bool) where
      matching-map : (d : Option (ℕ × Y)) (n : Name) (i : ℕ) (es : List (CompiledPattern R × Y)) → matching_from answers S (option_map at_place d) n u i
          (map with_node es) ≡ map h (matching_from answers T d n u i es)
      matching-map d n i [] = refl
      matching-map d n i (e ∷ es) = (λ j. put_if (reads_as u (known_or (known-map d i j) (pattern_answers answers e.0 n))) (h e.1) (matching-map d n (i + 1) es j))
          ∙ put-map _ _ _

      pub nodes_matching-map : (n : Name) → nodes_matching answers S u n ≡ map h (nodes_matching answers T u n)
      nodes_matching-map n = (λ j. matching_from answers S (same.at n j) n u 0 (same.patterns j)) ∙ matching-map (at_name T n) n 0 T.patterns

      pub is_additional-map : (n : Name) → is_additional answers S u n ≡ is_additional answers T u n
      is_additional-map n = (λ j. (ap is_none (same.at n) ∙ none-map at_place _) j && (ap is_empty (nodes_matching-map n) ∙ is_empty-map h _) j)

      pub others_asked-map : (n : Name) → others_asked answers S u n ≡ map h (others_asked answers T u n)
      others_asked-map n = (λ j. nodes_matching-map n j ++ ((λ k. cond (is_additional-map n k) (option_to_list (same.rest k)) []) ∙ rest-map _ T.rest) j) ∙ sym (map-append h _ _)

      pub nodes_asked-map : (n : Name) → nodes_asked answers S u n ≡ map h (nodes_asked answers T u n)
      nodes_asked-map n = (λ j. (ap (λ o. option_to_list (option_map {U = X} (λ f. f.1) o)) (same.at n) ∙ node-map _) j ++ others_asked-map n j) ∙ sym (map-append h _ _)

      pub is_unexpected-map : (n : Name) → is_unexpected answers S u n ≡ is_unexpected answers T u n
      is_unexpected-map n = λ j. (ap is_none same.rest ∙ none-map h T.rest) j && is_additional-map n j

      pub unexpected-map : (v : Data) → unexpected answers S u v ≡ unexpected answers T u v
      unexpected-map v = λ j. filter_once (λ x. is_unexpected-map x.0 j) (members v)

    -- ---- what it means

    module _ (costs : R → Bool) (p : X → Data → Question) (q : Y → Data → Question) (means : (y : Y) (w : Data) → p (h y) w ≡ q y w) where
      rest_means-map : (x : Data) (o : Option Y) → rest_means p x (option_map h o) ≡ rest_means q x o
      rest_means-map x None = refl
      rest_means-map x (Some y) = means y x

      declared_means-map : (x : Data) (d : Option (ℕ × Y)) → declared_means p x (option_map at_place d) ≡ declared_means q x d
      declared_means-map x None = refl
      declared_means-map x (Some f) = means f.1 x

      patterns_mean-map : (d : Option (ℕ × Y)) (n : Name) (x : Data) (spoken : Bool) (i : ℕ) (es : List (CompiledPattern R × Y))
          → patterns_mean_from answers costs p S (option_map at_place d) n x spoken i (map with_node es) ≡ patterns_mean_from answers costs q T d n x spoken i es
      patterns_mean-map d n x spoken i [] = ap (cond spoken (always true)) (ap (rest_means p x) same.rest ∙ rest_means-map x T.rest)
      patterns_mean-map d n x spoken i (e ∷ es) =
          λ j. conditional (known_or_asked (known-map d i j) (said_to (pattern_costs costs e.0) (pattern_answers answers e.0 n)))
          (both (means e.1 x j) (patterns_mean-map d n x true (i + 1) es j)) (patterns_mean-map d n x spoken (i + 1) es j)

      module _ (n : Name) (x : Data) where
        abbrev others_at : Option (ℕ × X) → List (CompiledPattern R × X) → Question
        others_at d es = patterns_mean_from answers costs p S d n x (is_some d) 0 es

        others_at-map : (d : Option (ℕ × Y)) → others_at (option_map at_place d) (map with_node T.patterns) ≡ patterns_mean_from answers costs q T d n x (is_some d) 0 T.patterns
        others_at-map None = patterns_mean-map None n x false 0 T.patterns
        others_at-map (Some f) = patterns_mean-map (Some f) n x true 0 T.patterns

        others_mean-map : others_mean answers costs p S n x ≡ others_mean answers costs q T n x
        others_mean-map = (λ j. others_at (same.at n j) (same.patterns j)) ∙ others_at-map _

        member_means-map : member_means answers costs p S n x ≡ member_means answers costs q T n x
        member_means-map = λ j. both ((ap (declared_means p x) (same.at n) ∙ declared_means-map x _) j) (others_mean-map j)

      declared_mean-map : (v : Data) → every (λ e. every (p e.1.1) (at e.0 v)) S.declared ≡ every (λ e. every (q e.1.1) (at e.0 v)) T.declared
      declared_mean-map v = ap (every _) same.declared ∙ every-map _ _ with_place (λ e i. every (λ w. means e.1.1 w i) (at e.0 v)) T.declared

      pub additional_means-map : (v : Data) → additional_means answers costs p S v ≡ additional_means answers costs q T v
      additional_means-map v = λ j. cond (repeats v) (both (declared_mean-map v j) (every (λ x. others_mean-map x.0 x.1 j) (members v))) (every (λ x. member_means-map x.0 x.1 j) (members v))

    -- ---- what it finds and shows

    module _ (u : Bool) (v : Data) (Q : Path) where
      module _ (r : X → Bool → Data → Path → List Fault) (s : Y → Bool → Data → Path → List Fault) (finds : (y : Y) (w : Data) (Q : Path) → r (h y) u w Q ≡ s y u w Q) (named : Bool) (P : Path) where
        asked_report-map : (x : Name × Data) {ns : List X} (ms : List Y) → ns ≡ map h ms → flat_map (λ e. r e u x.1 (Q // x.0)) ns ≡ flat_map (λ e. s e u x.1 (Q // x.0)) ms
        asked_report-map x ms e = ap (flat_map _) e ∙ flat_map-map _ _ h (λ y. finds y x.1 (Q // x.0)) _

        declared_report-map : flat_map (λ e. flat_map (λ w. r e.1.1 u w (Q // e.0)) (at e.0 v)) S.declared ≡ flat_map (λ e. flat_map (λ w. s e.1.1 u w (Q // e.0)) (at e.0 v)) T.declared
        declared_report-map = ap (flat_map _) same.declared ∙ flat_map-map _ _ with_place (λ e i. flat_map (λ w. finds e.1.1 w (Q // e.0) i) (at e.0 v)) T.declared

        pub additional_report-map : additional_report answers S u v Q named P r ≡ additional_report answers T u v Q named P s
        additional_report-map = λ j. cond (repeats v)
            (declared_report-map j ++ (flat_map (λ x. asked_report-map x _ (others_asked-map u x.0) j) (members v)
            ++ unexpected_faults named (unexpected-map u v j) v P Q))
            (flat_map (λ x. asked_report-map x _ (nodes_asked-map u x.0) j) (members v)
            ++ unexpected_faults named (unexpected-map u v j) v P Q)

        -- at a member, the first fault, or that it is not expected
        abbrev first_or_unexpected : Name × Data → List Fault → Bool → List Fault
        first_or_unexpected x found b = or_else found (cond b (unexpected_faults named (x ∷ []) v P Q) [])

        asked_first-map : (x : Name × Data) {ns : List X} (ms : List Y) → ns ≡ map h ms → first_or_unexpected x (first_of (λ e. r e u x.1 (Q // x.0)) ns) (is_unexpected answers S u x.0)
            ≡ first_or_unexpected x (first_of (λ e. s e u x.1 (Q // x.0)) ms) (is_unexpected answers T u x.0)
        asked_first-map x ms e =
            λ j. first_or_unexpected x ((ap (first_of (λ e. r e u x.1 (Q // x.0))) e ∙ first_of-map _ (λ e. s e u x.1 (Q // x.0)) h (λ y. finds y x.1 (Q // x.0)) ms) j)
            (is_unexpected-map u x.0 j)

        declared_first-map : first_of (λ e. first_of (λ w. r e.1.1 u w (Q // e.0)) (at e.0 v)) S.declared ≡ first_of (λ e. first_of (λ w. s e.1.1 u w (Q // e.0)) (at e.0 v)) T.declared
        declared_first-map = ap (first_of _) same.declared ∙ first_of-map _ _ with_place (λ e i. first_of (λ w. finds e.1.1 w (Q // e.0) i) (at e.0 v)) T.declared

        pub additional_first-map : additional_first answers S u v Q named P r ≡ additional_first answers T u v Q named P s
        additional_first-map = λ j. cond (repeats v)
            (or_else (declared_first-map j) (first_of (λ x. asked_first-map x _ (others_asked-map u x.0) j) (members v)))
            (first_of (λ x. asked_first-map x _ (nodes_asked-map u x.0) j) (members v))

      module _ (t : X → Data → Path → Tree) (s : Y → Data → Path → Tree) (shows : (y : Y) (w : Data) (Q : Path) → t (h y) w Q ≡ s y w Q)
          (declares has_patterns : Bool) (P M : Path) (more : List Tree) where
        names-map : additional_names answers S u v Q ≡ additional_names answers T u v Q
        names-map = λ j. map (λ x. x.0) (filter_once (λ x. is_additional-map u x.0 j) (members v))

        matches-map : matched_names answers S u v Q ≡ matched_names answers T u v Q
        matches-map = λ j. flat_map (λ x. (ap (map (λ e. x.0)) (nodes_matching-map u x.0) ∙ map-map _ _ h (λ y. refl) _) j) (members v)

        children-map : flat_map (λ x. map (λ e. t e x.1 (Q // x.0)) (nodes_asked answers S u x.0)) (members v) ≡ flat_map (λ x. map (λ e. s e x.1 (Q // x.0)) (nodes_asked answers T u x.0)) (members v)
        children-map = λ j. flat_map (λ x. (ap (map (λ e. t e x.1 (Q // x.0))) (nodes_asked-map u x.0) ∙ map-map _ _ h (λ y. shows y x.1 (Q // x.0)) _) j) (members v)

        pub additional_tree-map : additional_tree answers S u v Q declares has_patterns P M t more ≡ additional_tree answers T u v Q declares has_patterns P M s more
        additional_tree-map = λ j. result P Q
            (cond (is_object v && ((ap is_some same.rest ∙ some-map h T.rest) j && (cond declares has_patterns (not has_patterns) || not (is_empty (names-map j))))) (Some (names-map j)) None)
            false
            (described (unexpected_faults (declares || has_patterns) (unexpected-map u v j) v P Q))
            (children-map j ++ put_if (has_patterns && not declares && not (is_empty (matches-map j))) (node M Q true (Some (matches-map j)) [] no_tree) [] ++ more)
