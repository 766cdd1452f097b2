-- What holds `additionalProperties`, with all that it takes over.
use Rattle.std.proofs.Common.{◌≡◌, ◌<◌, ℕ, suc, Bool, true, false, not, ◌||◌, List, [], ◌∷◌, ◌++◌, map, zip, length, slice_get, slice_index_or as get_or, codes, Option, Some, None, is_some}
use Rattle.std.proofs.Common.{option_map, option_to_list, cond, ◌&&◌, nat_cmp, is_eq, refl, sym, ◌∙◌, ap, subst, arith, append-nil, true≢false, Less}
use Rattle.serde_json.specs.Data.{Data, boolean, Members}
use Rattle.olk_spec.specs.Names.{Name, Text, Path, ◌//◌, lookup_name, is_among}
use Rattle.olk_spec.specs.Schemas.{listed, members, is_object, is_truth}
use Rattle.olk_spec.specs.Faults.{Fault, ◌∼◌}
use Rattle.olk_meaning.specs.AdditionalProperties.{entries_in, declared_beside, declares_beside, matches_beside}
use Rattle.olk_meaning.specs.Conditions.{Known, is_restriction, is_restricted, known_of}
use Rattle.olk_meaning.specs.Chosen.{size_for, restriction_form}
use Rattle.olk_meaning.specs.Members.{member_report, member_standing}
use Rattle.std.specs.List.{flat_map, list_all, zip}
use Rattle.olk_meaning.specs.Plans.{Planned, plan_of, head, claims}
use Rattle.olk_meaning.proofs.AdditionalProperties.{either_way, true_allows, allowing_means_nothing}
use Rattle.olk_meaning.proofs.Claims.{claims_itself, heads_elsewhere, fuses_one_name, free_takes_nothing}
use Rattle.olk_meaning.proofs.Standing.{each_placed, size_declared}
use Rattle.olk_tree.specs.Additional.{Held, placed, mapped_places, patterns_in, known_by, required_text, required_place}
use Rattle.olk_tree.specs.Maps.{keys_in, nodes_in, mapped}
use Rattle.olk_tree.specs.Sides.{AnswersAs, EntriesAnswer, PatternsAnswer, RestAnswers, RestrictionStands}
use Rattle.olk_tree.proofs.RestrictionMeans.{restriction_accepts, restriction_asks, restriction_finds, restriction_shows}
use Rattle.olk_build.specs.Forms.{IsMapOf, IsRestriction, HasMapFor, IsFormOfAdditionalProperties, IsAdditionalProperties}
use Rattle.olk_build.specs.Standing.{StandEach, which, all_malformed, FillsPlace, EntriesStand, DeclaredStand, PatternsStand, RestStands, BesideStands}
use Rattle.olk_build.specs.Making.{KeywordsMean, MakesRestriction, MakesPart}
use Rattle.olk_build.proofs.Together.{MeanClaim, claim_by_name, means_nothing}
use Rattle.olk_build.proofs.PatternProperties.{all_formed}
use Rattle.olk_build.proofs.Formed.{AnswerEach, each_count, last_stands, schemas_answer, has_form, is_formed, just_one_formed, each_keys, each_nodes, each_held_formed, map_zipped, map_formed}
use Rattle.olk_build.proofs.Formed.{entry_formed, case_formed, stand_in, stand_as, each_held_placed, map_sized, entries_placed}
use Rattle.olk_tree.specs.Formed.{is_map_formed, size_of, names_beside, is_table_formed}
use Rattle.olk_tree.proofs.Formed.{table_formed}
use Rattle.std.proofs.Math.Bool.{or-true, and-true}
use Rattle.std.specs.{Cmp.Lexicographic.slice_cmp, Option.option_map_or}
use Rattle.std.proofs.{lemmas.List.length-map, lemmas.Map.Text.is_eq-slice_cmp}
use Rattle.olk_spec.specs.{Malformed.has_repeat, Tree.Tree}
use Rattle.olk_spec.proofs.{Truth.and_from, Maps.is_some-map}
use Rattle.olk_base.specs.{Kit.Kit, Compiled.pattern_answers, declared.pattern.CompiledPattern.CompiledPattern}
use Rattle.olk_meaning.specs.{Fused.fused_one, Told.schema_answers}
use Rattle.olk_meaning.proofs.{Listed.names_of, Clean.clean_one_fused, Conditions.restricted_read, PropertyNames.false_is_no_object, Rows.Rows}
use Rattle.olk_tree.specs.{Holdings.held, Ascending.Ascend, Questions.Question, Tables.Table, declared.additional_properties.Restriction.Restriction}
use Rattle.olk_tree.specs.{declared.properties_map.PropertiesMap.PropertiesMap, declared.node.KeywordOver.KeywordOver, Answers.Answers}
use Rattle.olk_tree.specs.{AdditionalProperties.additional_properties_answers, Validators.answers_of}
use Rattle.olk_build.specs.{declared.part.Beside.Beside, declared.part.DeclaredNodes.DeclaredNodes, declared.part.Patterns.Patterns}
use Rattle.olk_build.specs.declared.part.TakenNeighbours.{TakenNeighbours}
use Rattle.olk_meaning.proofs.Standing as standing
use Rattle.olk_tree.specs.declared.additional_properties.Restriction.TheVariants as by
use Rattle.olk_tree.specs.declared.node.KeywordOver.TheVariants as keyword
use Rattle.olk_build.specs.declared.shape.Shape.TheVariants as shape
use Rattle.olk_meaning.specs.Steps.{validators}
use Rattle.olk_tree.specs.Steps.{StandsBy, StepsOf}

-- ---- names that ascend are distinct

ascend_tail : (n : Name) (ns : List Name) → Ascend (n ∷ ns) → Ascend ns
ascend_tail n ns h i j below inside = h (suc i) (suc j) (omega (arith, below)) (omega (arith, inside))

first_is_apart : (n : Name) (ns : List Name) → ((j : ℕ) → j < length ns → slice_cmp nat_cmp n (get_or ns j []) ≡ Less) → is_among n ns ≡ false
first_is_apart n [] h = refl
first_is_apart n (k ∷ ns) h = λ i. (sym (is_eq-slice_cmp n k) ∙ ap is_eq (h 0 (omega arith))) i || first_is_apart n ns (λ j inside. h (suc j) (omega (arith, inside))) i

pub ascend_once : (ns : List Name) → Ascend ns → has_repeat ns ≡ false
ascend_once [] h = refl
ascend_once (n ∷ ns) h = λ i. first_is_apart n ns (λ j inside. h 0 (suc j) (omega arith) (omega (arith, inside))) i || ascend_once ns (ascend_tail n ns h) i

module _ {K R N : Type 0} {o : Kit K R} (I : StepsOf o) (answers : N → Answers) where
  abbrev means : N → Data → Question
  means n = (answers n).means

  abbrev report : N → Bool → Data → Path → List Fault
  report n = (answers n).report

  abbrev tree : N → Bool → Data → Path → Tree
  tree n = (answers n).tree

  -- ---- nodes that stand for schemas answer as these

  answers_as : (n : N) (S : Data) (P : Path) → StandsBy I answers n S P → AnswersAs I means report tree n S P
  answers_as n S P h = record { verdict = h.verdict; asks_within = h.asks_within; faults = h.faults; shows = h.evaluation }

  entries_answer : (ns : List N) (es : Rows) (L : Path) → StandEach I answers ns es L → EntriesAnswer I means report tree ns es L
  entries_answer [] [] L h = tt
  entries_answer (n ∷ ns) (e ∷ es) L h = (answers_as n e.1 (L // e.0) h.0, entries_answer ns es L h.1)
  entries_answer _ _ L h = absurd h

  patterns_answer : (ps : List (CompiledPattern R × N)) (es : Rows) (L : Path) → EntriesStand I answers ps es L → PatternsAnswer I means report tree ps es L
  patterns_answer [] [] L h = tt
  patterns_answer (p ∷ ps) (e ∷ es) L h = (record { answers = h.0.0.answers; costs = h.0.0.costs }, answers_as p.1 e.1 (L // e.0) h.0.1, patterns_answer ps es L h.1)
  patterns_answer _ _ L h = absurd h

  rest_answers : (x : Option N) (d : Data) (L : Path) → RestStands I answers x d L → RestAnswers I means report tree x d L
  rest_answers None d L h = h
  rest_answers (Some n) d L h = (h.0, answers_as n d L h.1)

  -- ---- what stands beside it

  -- a map stands for what `properties` declares at L
  record DeclaredSide (x : Option (PropertiesMap N)) (a : Option Data) (L : Path) : Type 0 where
    nodes : List N
    placed_zip : mapped_places x ≡ zip (keys_in (entries_in a)) (placed nodes)
    declared : EntriesAnswer I means report tree nodes (entries_in a) L
    there : is_some x ≡ is_some a
    once : has_repeat (keys_in (entries_in a)) ≡ false

  -- nodes for what is declared at L, held in a map
  module _ (b : DeclaredNodes N) (m : PropertiesMap N) (d : Data) (L : Path) (form : IsMapOf (Some b) (Some m)) (h : DeclaredStand I answers b L d) where
    all_mapped : mapped m ≡ zip (keys_in (members d)) b.nodes.items
    all_mapped = map_zipped b.names b.nodes.items m form.0 ∙ ap (λ ks. zip ks b.nodes.items) h.names

    each : AnswerEach I answers (schema_answers I.steps) b.nodes.items (members d) L
    each = schemas_answer I answers b.nodes.items (members d) L h.nodes

    keys : keys_in (mapped m) ≡ keys_in (members d)
    keys = each_keys I answers (mapped m) _ _ _ all_mapped _ each

  declared_side : (b : Option (DeclaredNodes N)) (x : Option (PropertiesMap N)) (a : Option Data) (L : Path) → IsMapOf b x → FillsPlace (λ m. DeclaredStand I answers m L) b a → DeclaredSide x a L
  declared_side None None None L form h = record { nodes = []; placed_zip = refl; declared = tt; there = refl; once = refl }
  declared_side (Some b) (Some m) (Some d) L form h = record {
    nodes = b.nodes.items;
    placed_zip = λ i. zip (keys b m d L form h i) (placed (each_nodes I answers (mapped m) _ _ _ (all_mapped b m d L form h) _ (each b m d L form h) i));
    declared = entries_answer b.nodes.items (members d) L h.nodes;
    there = refl;
    once = ap has_repeat (sym h.names) ∙ ascend_once b.names form.2;
  }
  declared_side None (Some m) a L form h = absurd form
  declared_side (Some b) None a L form h = absurd form
  declared_side _ x _ L form h = absurd h

  -- ---- what is held

  abbrev entries : Patterns R N → List (CompiledPattern R × N)
  entries x = x.patterns.items

  -- a table stands where names are declared
  abbrev table_beside : Option (PropertiesMap N) → Option (Patterns R N) → Option Table
  table_beside None x = None
  table_beside (Some m) x = option_map (λ (x : Patterns R N). x.table) x

  abbrev place_alone : Option (PropertiesMap N) → Option (Patterns R N) → Path
  place_alone None (Some x) = x.location
  place_alone m x = []

  abbrev fused_alone : Option N → Option (PropertiesMap N) → Option (Patterns R N) → Option Name → Option Name
  fused_alone rest m x n = cond (not (is_some rest) && is_some m && not (is_some x)) n None

  abbrev required_at : Path → Option Name → Option (Text × Path)
  required_at P n = option_map (λ t. (t, P // codes "required")) n

  module _ (P L : Path) where
    abbrev holding : Option N → Option (PropertiesMap N) → Option (Patterns R N) → Option Name → Held R N
    holding rest m x n = record {
      properties = m;
      patterns = option_map entries x;
      table = table_beside m x;
      rest = rest;
      required = required_at P (fused_alone rest m x n);
      location = L;
      patterns_location = place_alone m x;
    }

    held_as : (rest : Option N) (m : Option (PropertiesMap N)) (x : Option (Patterns R N)) (n : Option Name) (k : Restriction R N) → IsRestriction P L rest m x n k → held k ≡ holding rest m x n
    held_as (Some r) None None n (by.Schema k) h =
        λ i. record { properties = None; patterns = None; table = None; rest = Some (h.0 i); required = None; location = h.1 i; patterns_location = [] }
    held_as None None None n (by.False k) h =
        λ i. record { properties = None; patterns = None; table = None; rest = None; required = None; location = h i; patterns_location = [] }
    held_as (Some r) (Some m) None n (by.NotEmpty k) h =
        λ i. record { properties = Some (h.0 i); patterns = None; table = None; rest = Some (h.1 i); required = None; location = h.2 i; patterns_location = [] }
    held_as None (Some m) None None (by.NotEmptyFalse k) h =
        λ i. record { properties = Some (h.0 i); patterns = None; table = None; rest = None; required = None; location = h.1 i; patterns_location = [] }
    held_as None (Some m) None (Some n) (by.NotEmptyFalseWithRequired1 k) h =
        λ i. record { properties = Some (h.0 i); patterns = None; table = None; rest = None; required = Some (h.1 i, h.3 i); location = h.2 i; patterns_location = [] }
    held_as (Some r) None (Some x) n (by.WithPatterns k) h =
        λ i. record { properties = None; patterns = Some ((h.0 i).items); table = None; rest = Some (h.1 i); required = None; location = h.2 i; patterns_location = h.3 i }
    held_as None None (Some x) n (by.WithPatternsFalse k) h =
        λ i. record { properties = None; patterns = Some ((h.0 i).items); table = None; rest = None; required = None; location = h.1 i; patterns_location = h.2 i }
    held_as (Some r) (Some m) (Some x) n (by.WithPatternsNotEmpty k) h =
        λ i. record { properties = Some (h.0 i); patterns = Some ((h.1 i).items); table = Some (h.2 i); rest = Some (h.3 i); required = None; location = h.4 i; patterns_location = [] }
    held_as None (Some m) (Some x) n (by.WithPatternsNotEmptyFalse k) h =
        λ i. record { properties = Some (h.0 i); patterns = Some ((h.1 i).items); table = Some (h.2 i); rest = None; required = None; location = h.3 i; patterns_location = [] }
    held_as rest m x n k h = absurd h

  -- ---- the patterns beside it

  -- they stand for what `patternProperties` holds at L, beside the declared names ns
  record PatternsSide (m : Option (PropertiesMap N)) (x : Option (Patterns R N)) (ns : List Name) (a : Option Data) (L : Path) : Type 0 where
    patterns : PatternsAnswer I means report tree (patterns_in (option_map entries x)) (entries_in a) L
    known : (p i : ℕ) (n : Name) (c : CompiledPattern R) → slice_get ns p ≡ Some n → slice_get (map (λ e. e.0) (patterns_in (option_map entries x))) i ≡ Some c
        → known_by (table_beside m x) p i ≡ pattern_answers o.answers c n
    there : is_some (option_map entries x) ≡ is_some a
    place : is_some (option_map entries x) ≡ true → is_some m ≡ false → place_alone m x ≡ L

  none_there : (a : Option Data) → false ≡ is_some a → entries_in a ≡ []
  none_there None e = refl
  none_there (Some d) e = absurd (true≢false (sym e))

  module _ (ms : Members) (restricted : is_restricted ms ≡ true) where
    module _ (x : Patterns R N) (d : Data) (L : Path) (h : PatternsStand I answers (known_of ms) x L d) where
      names_kept : x.table.names ≡ keys_in (declared_beside ms)
      names_kept = h.names ∙ ap (λ b. keys_in (cond b (declared_beside ms) [])) restricted

      -- what is known of a pattern and a declared name
      all_known : (m : Option (PropertiesMap N)) → is_some m ≡ declares_beside ms → (p i : ℕ) (n : Name) (c : CompiledPattern R) → slice_get (keys_in (declared_beside ms)) p ≡ Some n
          → slice_get (map (λ e. e.0) (entries x)) i ≡ Some c → known_by (table_beside m (Some x)) p i ≡ pattern_answers o.answers c n
      all_known (Some m) e p i n c at_name at_pattern = h.table.says p i n c (ap (λ ns. slice_get ns p) names_kept ∙ at_name) at_pattern
      all_known None e p i n c at_name at_pattern = absurd (true≢false (sym (ap is_some at_name) ∙ ap (λ es. is_some (slice_get (keys_in es) p)) (none_there _ e)))

      all_placed : (m : Option (PropertiesMap N)) → is_some m ≡ false → place_alone m (Some x) ≡ L
      all_placed None e = h.place
      all_placed (Some m) e = absurd (true≢false e)

    patterns_side : (m : Option (PropertiesMap N)) → is_some m ≡ declares_beside ms → (x : Option (Patterns R N)) (a : Option Data) (L : Path)
        → FillsPlace (λ x. PatternsStand I answers (known_of ms) x L) x a → PatternsSide m x (keys_in (declared_beside ms)) a L
    patterns_side m declares None None L h = record {
      patterns = tt;
      known = λ p i n c at_name at_pattern. absurd (true≢false (sym (ap is_some at_pattern)));
      there = refl;
      place = λ e. absurd (true≢false (sym e));
    }
    patterns_side m declares (Some x) (Some d) L h = record {
      patterns = patterns_answer x.patterns.items (members d) L h.entries;
      known = all_known x d L h m declares;
      there = refl;
      place = λ e. all_placed x d L h m;
    }
    patterns_side m declares _ _ L h = absurd h

  -- ---- the form of what stands beside it

  declared_names : (b : Option (DeclaredNodes N)) (x : Option (PropertiesMap N)) (a : Option Data) (L : Path) → IsMapOf b x → FillsPlace (λ m. DeclaredStand I answers m L) b a
      → names_beside x ≡ keys_in (entries_in a)
  declared_names None None None L form h = refl
  declared_names (Some b) (Some m) (Some d) L form h = keys b m d L form h
  declared_names None (Some m) a L form h = absurd form
  declared_names (Some b) None a L form h = absurd form
  declared_names _ x _ L form h = absurd h

  declared_formed : (b : Option (DeclaredNodes N)) (x : Option (PropertiesMap N)) (a : Option Data) (L : Path) → IsMapOf b x → FillsPlace (λ m. DeclaredStand I answers m L) b a
      → option_map_or (λ m. is_map_formed m && list_all (has_form I answers) (nodes_in (mapped m))) x true ≡ true
  declared_formed None None None L form h = refl
  declared_formed (Some b) (Some m) (Some d) L form h =
      and_from _ _ (map_formed b.names b.nodes.items (each_count I answers _ _ _ _ (each b m d L form h) ∙ ap length (sym h.names)) m form.0 form.1)
      (each_held_formed I answers (mapped m) _ _ _ (all_mapped b m d L form h) _ (each b m d L form h))
  declared_formed None (Some m) a L form h = absurd form
  declared_formed (Some b) None a L form h = absurd form
  declared_formed _ x _ L form h = absurd h

  module _ (ms : Members) (restricted : is_restricted ms ≡ true) where
    table_beside_formed : (m : Option (PropertiesMap N)) (x : Option (Patterns R N)) (a : Option Data) (L : Path) → names_beside m ≡ keys_in (declared_beside ms)
        → FillsPlace (λ x. PatternsStand I answers (known_of ms) x L) x a
        → option_map_or (is_table_formed o.answers (names_beside m) (map (λ e. e.0) (patterns_in (option_map entries x)))) (table_beside m x) true ≡ true
    table_beside_formed None x a L declared h = refl
    table_beside_formed (Some m) None a L declared h = refl
    table_beside_formed (Some m) (Some x) (Some d) L declared h =
        table_formed o.answers (names_beside (Some m)) (map (λ e. e.0) x.patterns.items) x.table (names_kept ms restricted x d L h ∙ sym declared) h.table
    table_beside_formed (Some m) (Some x) None L declared h = absurd h

    entries_formed : (x : Option (Patterns R N)) (a : Option Data) (L : Path) → FillsPlace (λ x. PatternsStand I answers (known_of ms) x L) x a
        → list_all (entry_formed I answers) (patterns_in (option_map entries x)) ≡ true
    entries_formed None a L h = refl
    entries_formed (Some x) (Some d) L h = all_formed I answers L x.patterns.items (members d) h.entries
    entries_formed (Some x) None L h = absurd h

  rest_formed : (x : Option N) (d : Data) (L : Path) → RestStands I answers x d L → case_formed I answers x ≡ true
  rest_formed None d L h = refl
  rest_formed (Some n) d L h = h.1.formed

  -- ---- what stands beside it

  declared_placed : (b : Option (DeclaredNodes N)) (x : Option (PropertiesMap N)) (a : Option Data) (L : Path) → IsMapOf b x → FillsPlace (λ m. DeclaredStand I answers m L) b a
      → (option_map size_of x ≡ size_declared I.steps a) × (option_map_or (λ m. flat_map (stand_in I answers) (nodes_in (mapped m))) x [] ≡ each_placed I.steps L (entries_in a))
  declared_placed None None None L form h = (refl, refl)
  declared_placed (Some b) (Some m) (Some d) L form h = (
    ap Some (map_sized m (length b.names) form.1 ∙ ap (λ ks. size_for (length ks)) h.names ∙ ap size_for (length-map (members d) (λ e. e.0))),
    each_held_placed I answers (mapped m) _ _ _ (all_mapped b m d L form h) _ (each b m d L form h),
  )
  declared_placed None (Some m) a L form h = absurd form
  declared_placed (Some b) None a L form h = absurd form
  declared_placed _ x _ L form h = absurd h

  matched_placed : (c : Known) (x : Option (Patterns R N)) (a : Option Data) (L : Path) → FillsPlace (λ x. PatternsStand I answers c x L) x a
      → flat_map (λ e. stand_in I answers e.1) (patterns_in (option_map entries x)) ≡ each_placed I.steps L (entries_in a)
  matched_placed c None None L h = refl
  matched_placed c (Some x) (Some d) L h = entries_placed I answers x.patterns.items (members d) L h.entries
  matched_placed c _ _ L h = absurd h

  rest_there : (x : Option N) (d : Data) (L : Path) → RestStands I answers x d L
      → (is_some x ≡ is_object d) × (option_map_or (stand_in I answers) x [] ≡ cond (is_object d) (validators I.steps d L) [])
  rest_there None d L h = (sym (false_is_no_object d h), ap (λ b. cond b (validators I.steps d L) []) (sym (false_is_no_object d h)))
  rest_there (Some n) d L h = (sym h.0, h.1.forms ∙ ap (λ b. cond b (validators I.steps d L) []) (sym h.0))

  -- ---- the name that is fused

  -- it is fused where names are declared alone, and nothing else is expected
  alone_fused : (rest : Option N) (m : Option (PropertiesMap N)) (x : Option (Patterns R N)) (n : Option Name)
      → ((t : Name) → n ≡ Some t → (is_some rest ≡ false) × (is_some m ≡ true) × (is_some x ≡ false)) → fused_alone rest m x n ≡ n
  alone_fused rest m x None h = either_way (not (is_some rest) && is_some m && not (is_some x)) None
  alone_fused rest m x (Some t) h = λ i. cond (not ((h t refl).0 i) && (h t refl).1 i && not ((h t refl).2 i)) (Some t) None

  required_there : (P : Path) (n : Option Name) → (required_text (required_at P n) ≡ option_to_list n) × (is_some (required_at P n) ≡ true → required_place (required_at P n) ≡ P // codes "required")
  required_there P None = (refl, λ e. absurd (true≢false (sym e)))
  required_there P (Some n) = (refl, λ e. refl)

  rest_refused : (rest : Option N) (d : Data) (L : Path) → RestStands I answers rest d L → Some d ≡ Some (boolean false) → is_some rest ≡ false
  rest_refused None d L h e = refl
  rest_refused (Some r) d L h e = absurd (true≢false (sym h.0 ∙ ap (λ a. option_map_or is_object a false) e))

  -- ---- the validator

  module _ (k : Restriction R N) (L P : Path) (rest : Option N) (b : Beside R N) (ms : Members) (form : IsFormOfAdditionalProperties P L rest b (fused_one ms) k)
      (d : Data) (place : L ≡ P // codes "additionalProperties") (rest_stands : RestStands I answers rest d L) (stands : BesideStands I answers (known_of ms) b ms P)
      (there : lookup_name (codes "additionalProperties") (listed ms) ≡ Some d) (restricted : is_restricted ms ≡ true) where
    map_side : DeclaredSide form.0 (lookup_name (codes "properties") (listed ms)) (P // codes "properties")
    map_side = declared_side b.properties form.0 _ _ form.1 stands.0

    matched_side : PatternsSide form.0 b.patterns (keys_in (declared_beside ms)) (lookup_name (codes "patternProperties") (listed ms)) (P // codes "patternProperties")
    matched_side = patterns_side ms restricted form.0 map_side.there b.patterns _ _ stands.1

    patterns_there : is_some b.patterns ≡ matches_beside ms
    patterns_there = is_some-map entries b.patterns ∙ matched_side.there

    all_fused : fused_alone rest form.0 b.patterns (fused_one ms) ≡ fused_one ms
    all_fused = alone_fused rest form.0 b.patterns (fused_one ms) (λ t e.
        let fuses = fuses_one_name ms t e in
        (rest_refused rest d L rest_stands (sym there ∙ fuses.closed), map_side.there ∙ fuses.declared, patterns_there ∙ ap is_some fuses.unpatterned))

    all_held : held k ≡ holding P L rest form.0 b.patterns (fused_one ms)
    all_held = held_as P L rest form.0 b.patterns (fused_one ms) k form.2

    restriction_stands : RestrictionStands I means report tree (held k) ms d P
    restriction_stands = subst (λ h. RestrictionStands I means report tree h ms d P) (sym all_held) record {
      sides = record {
        nodes = map_side.nodes;
        placed_zip = map_side.placed_zip;
        declared = map_side.declared;
        patterns = matched_side.patterns;
        known = matched_side.known;
        rest = subst (λ M. RestAnswers I means report tree rest d M) place (rest_answers rest d L rest_stands);
      };
      declares = map_side.there;
      has_patterns = matched_side.there;
      requires = ap (λ n. required_text (required_at P n)) all_fused ∙ (required_there P (fused_one ms)).0;
      place = place;
      patterns_place = matched_side.place;
      required_place = (required_there P (fused_alone rest form.0 b.patterns (fused_one ms))).1;
      declared_once = map_side.once;
    }

    restriction_formed : is_formed I answers (keyword.AdditionalProperties k) ≡ true
    unfolding answers_of
    restriction_formed = ap (λ h. (additional_properties_answers o.answers o.costs h).formed (has_form I answers)) all_held
        ∙ and_from _ _ (and_from _ _ (and_from _ _ (declared_formed b.properties form.0 _ _ form.1 stands.0)
        (table_beside_formed ms restricted form.0 b.patterns _ _ (declared_names b.properties form.0 _ _ form.1 stands.0) stands.1))
        (entries_formed ms restricted b.patterns _ _ stands.1)) (rest_formed rest d L rest_stands)

    restriction_placed : all_malformed I ms P (listed ms) ≡ [] → flat_map (stand_as I answers) (keyword.AdditionalProperties k ∷ []) ≡ flat_map (λ m. member_standing I.steps ms m (which o ms m) P) ((codes "additionalProperties", d) ∷ [])
    unfolding answers_of
    restriction_placed clean =
        append-nil (stand_as I answers (keyword.AdditionalProperties k)) ∙ ap (λ h. (additional_properties_answers o.answers o.costs h).forms (stand_in I answers)) all_held
        ∙ (λ i. (
          place i,
          restriction_form ((rest_there rest d L rest_stands).0 i) ((declared_placed b.properties form.0 _ _ form.1 stands.0).0 i) (matched_side.there i)
              ((ap (λ n. is_some (required_at P n)) all_fused ∙ sym (is_some-map (λ t. (t, P // codes "required")) (fused_one ms))) i),
        )
        ∷ ((declared_placed b.properties form.0 _ _ form.1 stands.0).1 i ++ matched_placed (known_of ms) b.patterns _ _ stands.1 i
        ++ ((rest_there rest d L rest_stands).1 ∙ ap (λ M. cond (is_object d) (validators I.steps d M) []) place) i))
        ∙ sym (append-nil _ ∙ standing.restriction_stands I.steps ms P d (is_some (fused_one ms)) (restricted_read I.steps.stands ms ∙ restricted) (clean_one_fused I.steps ms P clean I.steps.stands))

    restriction_means : has_repeat (names_of (listed ms)) ≡ false → MeanClaim I answers ms (plan_of ms) (keyword.AdditionalProperties k ∷ []) (codes "additionalProperties", d) P
    restriction_means distinct = record {
      covers = record {
        verdict = λ u v. and-true _ ∙ restriction_accepts I means report tree k restriction_stands distinct there restricted u v;
        asks_within = λ u v. let h = restriction_asks I means report tree k restriction_stands distinct there restricted u v in omega (arith, h);
        faults =
            λ u v Q. subst (λ l. l ∼ flat_map (λ x. member_report I.steps ms x (which o ms x) u v P Q) (claims (head (plan_of ms)) (listed ms) (codes "additionalProperties", d)))
            (sym (append-nil _)) (restriction_finds I means report tree k restriction_stands distinct there restricted u v Q);
      };
      shows =
          λ clean u v Q. restriction_shows I means report tree k restriction_stands distinct there restricted u v Q (clean_one_fused I.steps ms P clean (I.steps.means u)) ∙ sym (append-nil _);
      formed = just_one_formed I answers (keyword.AdditionalProperties k) restriction_formed;
      forms = restriction_placed;
    }

  restricted_there : (x : Option N) (d : Data) (L : Path) → RestStands I answers x d L → is_restriction (Some d) ≡ true
  restricted_there None d L h = ap (λ b. b || is_object d) h
  restricted_there (Some n) d L h = ap (λ b. is_truth false d || b) h.0 ∙ or-true (is_truth false d)

  pub makes_restriction : (k : Restriction R N) (L P : Path) (rest : Option N) (b : Beside R N) (p : Planned) → IsFormOfAdditionalProperties P L rest b p.fused_one k
      → MakesRestriction I answers L rest b P p (keyword.AdditionalProperties k ∷ [])
  makes_restriction k L P rest b p form ms d place rest_stands stands distinct there chosen =
      subst (λ q. MeanClaim I answers ms q (keyword.AdditionalProperties k ∷ []) (codes "additionalProperties", d) P) (sym chosen)
      (restriction_means k L P rest b ms (subst (λ n. IsFormOfAdditionalProperties P L rest b n k) (ap (λ q. q.fused_one) chosen) form)
      d place rest_stands stands there (ap is_restriction there ∙ restricted_there rest d L rest_stands) distinct)

  -- ---- the form, by what there is

  map_for : (b : Option (DeclaredNodes N)) (x : Option (PropertiesMap N)) → IsMapOf b x → HasMapFor (option_map (λ (m : DeclaredNodes N). length m.names) b) x
  map_for None None h = tt
  map_for (Some b) (Some m) h = h.1
  map_for _ _ h = absurd h

  pub is_additional_properties : (k : Restriction R N) (P L : Path) (rest : Option N) (b : Beside R N) (n : Option Name) → IsFormOfAdditionalProperties P L rest b n k
      → IsAdditionalProperties {K = K} P L (is_some rest) (option_map (λ (m : DeclaredNodes N). length m.names) b.properties)
      (option_map (λ (x : Patterns R N). length x.patterns.items) b.patterns) n (keyword.AdditionalProperties k)
  is_additional_properties k P L rest b n form = (rest, form.0, b.patterns, refl, map_for b.properties form.0 form.1, refl, form.2)

  -- ---- the parts

  module _ {L P : Path} {p : Planned} (ns : List N) (t : TakenNeighbours R N) where
    -- of a schema, whose node this is
    pub part_of_rest : {n : N} {ks : List (KeywordOver K R N)} (before : List N) → ns ≡ before ++ n ∷ [] → MakesRestriction I answers L (Some n) t.beside P p ks
        → MakesPart I answers shape.AdditionalProperties L ns t P p ks
    part_of_rest before split make ms m place named fits stand cases zip distinct there chosen untaken =
        claim_by_name I answers named.0 refl place there (λ at_rest found. make ms m.1 at_rest (named.1, last_stands I answers before split stand) (zip refl) distinct found chosen)

    -- of `false`
    pub part_of_no_others : {ks : List (KeywordOver K R N)} → MakesRestriction I answers L None t.beside P p ks → MakesPart I answers shape.NoOthers L ns t P p ks
    part_of_no_others make ms m place named fits stand cases zip distinct there chosen untaken =
        claim_by_name I answers named.0 refl place there (λ at_rest found. make ms m.1 at_rest named.1 (zip refl) distinct found chosen)

    -- of `true`
    pub part_of_any_others : MakesPart I answers shape.AnyOthers L ns t P p []
    part_of_any_others ms m place named fits stand cases zip distinct there chosen untaken =
        let allows = true_allows m.1 named.1 in
        claim_by_name I answers named.0 chosen place there (λ at_rest found.
        let free = ap is_restriction found ∙ allows in
        subst (λ rows. KeywordsMean I answers ms [] rows ((codes "additionalProperties", m.1) ∷ []) P)
        (sym (claims_itself ms distinct (head (plan_of ms)) (codes "additionalProperties", m.1)
        (heads_elsewhere (plan_of ms) (codes "additionalProperties") refl refl (λ e. (refl, refl)) (free_takes_nothing ms (codes "additionalProperties") free)) found))
        (means_nothing I answers ms P _ (allowing_means_nothing I.steps ms m.1 allows free)))
