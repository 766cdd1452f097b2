-- `patternProperties`, over the raw data of its entries: the meaning and the tree where no validator of `additionalProperties` stands for it.
use Rattle.std.proofs.Common.{◌≡◌, ℕ, ◌+◌, ◌*◌, Bool, true, false, not, cond, ◌&&◌, List, [], ◌∷◌, ◌++◌, map, length, sum_by, count_by, codes, Some, None, refl, sym, ◌∙◌, ap, arith, append-nil}
use Rattle.std.specs.List.{list_all, flat_map}
use Rattle.serde_json.specs.Data.{Data, string, Members}
use Rattle.olk_spec.specs.Names.{Name, Path, ◌//◌, filter_once, put_if}
use Rattle.olk_spec.specs.World.{World, is_unfinished}
use Rattle.olk_spec.specs.Faults.{Fault, Regex}
use Rattle.olk_spec.specs.Schemas.{Sub, Schema, read, read_members, members, is_object, entries_at}
use Rattle.olk_spec.specs.Meanings.{Meaning, Asked, asked, applied, restricts, matches, is_open, is_declared}
use Rattle.olk_spec.specs.Asks.{open_patterns, asks_at}
use Rattle.olk_spec.specs.Malformed.{refusal, unless_object, own_refusals}
use Rattle.olk_spec.specs.Costs.{Cost, own_cost, no_cost, ◌⊕◌, total_cost}
use Rattle.olk_spec.proofs.Maps.{map-map, flat_map-map}
use Rattle.olk_spec.proofs.Reading.{entry, place, entries_read, schema_of_read}
use Rattle.olk_meaning.specs.Members.{member_accepts, member_asks, member_report, member_child}
use Rattle.olk_meaning.specs.Told.{IsKeywordTold}
use Rattle.olk_meaning.specs.PatternProperties.{matched_members, pattern_asks, open_names, pattern_faults, matcher_made, matchers_made, names_asked, patterns_told}
use Rattle.olk_meaning.specs.AdditionalProperties.{declared_beside, matching_asks, patterns_asked}
use Rattle.olk_meaning.proofs.Facts.{accepts_it, asks_it, finds_it, shows_it, asked_each, each_accepts, each_asks, each_finds, each_shows, sum_of_both, sum_of_those, sums_exchanged, sum_by-exchanged}
use Rattle.olk_meaning.specs.Conditions.{is_restricted, known_of}
use Rattle.olk_meaning.proofs.Conditions.{entries_beside, declared_read, restricted_read}
use Rattle.olk_meaning.proofs.Rows.{Rows}
use Rattle.std.proofs.{lemmas.List.length-map, lemmas.List.Sums.sum_by-cons, Math.Bool.and-true}
use Rattle.olk_spec.specs.{Vocabulary.pattern_properties, Tree.result}
use Rattle.olk_spec.proofs.{CostSums.sum_last, Order.∼_same}
use Rattle.olk_meaning.specs.Steps.{Steps, accepts, asks, report, tree, meaning}

-- ---- the members that are asked about

module _ {W : World} (I : Steps W) (u : Bool) (ms : Members) (d : Data) (v : Data) where
  abbrev asked_of : Name × Data → Name × Data → Asked
  asked_of e x = asked (place (I.means u) e.1) x.1 (codes "patternProperties" ∷ e.0 ∷ []) (x.0 ∷ [])

  asked_matching : applied W u (read_members (I.means u) ms) (codes "patternProperties") (read (I.means u) d) v pattern_properties ≡ asked_each asked_of
      (λ e. matched_members W u e.0 v) (members d)
  asked_matching = ap (flat_map _) (entries_read (I.means u) d) ∙ flat_map-map _ _ (entry (I.means u)) (λ e. refl) (members d)

-- ---- how many matchers are asked

pub other_way : (a b : ℕ) → a + b ≡ b + a
other_way a b = omega arith

module _ (W : World) where
  open_counted : {X : Type 0} (es : List (Name × X)) → length (filter_once (is_open W) (map (λ e. e.0) es)) ≡ sum_by (λ e. pattern_asks W e.0) es
  open_counted [] = refl
  open_counted {X} (e ∷ es) = by (is_open W e.0) ∙ ap (λ n. pattern_asks W e.0 + n) (open_counted es) ∙ sym (sum_by-cons _ e es)
    where
      by : (b : Bool) → length (put_if b e.0 (filter_once (is_open W) (map (λ e. e.0) es))) ≡ cond b 1 0 + length (filter_once (is_open W) (map (λ e. e.0) es))
      by true = omega arith
      by false = omega arith

  names_of_entries : {X : Type 0} (step : Schema X → X) (es : Rows) → map {A = Name × Sub X} (λ e. e.0) (map (entry step) es) ≡ map {A = Name × Data} (λ e. e.0) es
  names_of_entries step es = map-map _ _ _ (λ e. refl) es

  pub open_read : {X : Type 0} (step : Schema X → X) (d : Data) → open_patterns W (read step d) ≡ open_names W d
  open_read {X} step d = ap (λ es. filter_once (is_open W) (map {A = Name × Sub X} (λ e. e.0) es)) (entries_read step d) ∙ ap (filter_once (is_open W)) (names_of_entries step (members d))

-- ---- what it means

module _ {W : World} (I : Steps W) (ms : Members) (d : Data) (u : Bool) (v : Data) where
  -- a schema, with its parts' meanings, to its own
  abbrev to_meaning : Schema Meaning → Meaning
  to_meaning = I.means u

  pub pattern_properties_accepts : member_accepts I ms (codes "patternProperties", d) pattern_properties u v ≡ list_all
      (λ e. list_all (λ x. accepts I u e.1 x.1) (matched_members W u e.0 v)) (members d)
  unfolding meaning
  pattern_properties_accepts = and-true _ ∙ ap (list_all accepts_it) (asked_matching I u ms d v) ∙ each_accepts _ _ (members d)

  pub pattern_properties_report : (P Q : Path) → member_report I ms (codes "patternProperties", d) pattern_properties u v P Q ≡ flat_map
      (λ e. flat_map (λ x. report I u e.1 x.1 (P // codes "patternProperties" // e.0) (Q // x.0)) (matched_members W u e.0 v)) (members d)
  unfolding meaning
  pattern_properties_report P Q = append-nil _ ∙ ap (flat_map (finds_it P Q)) (asked_matching I u ms d v) ∙ each_finds _ _ P Q (members d)

  -- ---- where it has a validator of its own

  module _ (free : restricts (read_members to_meaning ms) ≡ false) where
    own_asked : sum_by (λ m. asks_at W (read_members to_meaning ms) (read to_meaning d) m.0) (members v) ≡ sum_by (λ e. sum_by (λ x. pattern_asks W e.0) (members v)) (members d)
    own_asked = (λ i. sum_by (λ m. cond (free i && is_declared (read_members to_meaning ms) m.0)
        (count_by (λ t. is_unfinished (W.says t m.0)) (open_patterns W (read to_meaning d))) (length (open_patterns W (read to_meaning d)))) (members v))
        ∙ ap (λ n. sum_by (λ (m : Name × Data). n) (members v)) (ap length (open_read W to_meaning d) ∙ open_counted W (members d))
        ∙ sym (sums_exchanged (λ (e x : Name × Data). pattern_asks W e.0) (members d) (members v))

    asked_together : (e : Name × Data) → sum_by (λ x. pattern_asks W e.0 + cond (matches W u e.0 x.0) (asks I u e.1 x.1) 0) (members v) ≡ sum_by
        (λ x. pattern_asks W e.0) (members v) + sum_by (λ x. asks I u e.1 x.1) (matched_members W u e.0 v)
    asked_together e = sum_of_both (λ x. pattern_asks W e.0) (λ x. cond (matches W u e.0 x.0) (asks I u e.1 x.1) 0) (members v)
        ∙ ap (λ n. sum_by (λ x. pattern_asks W e.0) (members v) + n) (sum_of_those _ _ (members v))

    -- each matcher is asked each member's name, and where the pattern matches, its schema is asked
    pub pattern_properties_asks : member_asks I ms (codes "patternProperties", d) pattern_properties u v ≡ sum_by
        (λ e. sum_by (λ x. pattern_asks W e.0 + cond (matches W u e.0 x.0) (asks I u e.1 x.1) 0) (members v)) (members d)
    unfolding meaning
    pattern_properties_asks = (λ i. sum_by asks_it (asked_matching I u ms d v i) + own_asked i)
        ∙ ap (λ n. n + sum_by (λ e. sum_by (λ x. pattern_asks W e.0) (members v)) (members d)) (each_asks _ _ (members d))
        ∙ other_way (sum_by (λ e. sum_by (λ x. asks I u e.1 x.1) (matched_members W u e.0 v)) (members d)) (sum_by (λ e. sum_by (λ x. pattern_asks W e.0) (members v)) (members d))
        ∙ sym (sum_of_both (λ e. sum_by (λ x. pattern_asks W e.0) (members v)) (λ e. sum_by (λ x. asks I u e.1 x.1) (matched_members W u e.0 v)) (members d))
        ∙ (λ i. sum_by (λ e. sym (asked_together e) i) (members d))

    -- a child for each match, and a name for each match, pattern by pattern
    pattern_properties_child : (P Q : Path) → member_child I ms (codes "patternProperties", d) pattern_properties u v P Q ≡ (patterns_told I (members d)).shown u v (P // codes "patternProperties") Q ∷ []
    unfolding meaning
    pattern_properties_child P Q = λ i. put_if (not (free i)) (result (P // codes "patternProperties") Q (cond (and-true (is_object v) i) (Some (names i)) None) false [] (trees i)) []
      where
        names : flat_map (λ e. map (λ m. m.0) (filter_once (λ m. matches W u e.0 m.0) (members v))) (read to_meaning d).entries ≡ flat_map
            (λ e. map (λ x. x.0) (matched_members W u e.0 v)) (members d)
        names = ap (flat_map _) (entries_read to_meaning d) ∙ flat_map-map _ _ (entry to_meaning) (λ e. refl) (members d)

        trees : map (shows_it P Q) (applied W u (read_members to_meaning ms) (codes "patternProperties") (read to_meaning d) v pattern_properties) ≡ flat_map
            (λ e. map (λ x. tree I u e.1 x.1 (P // codes "patternProperties" // e.0) (Q // x.0)) (matched_members W u e.0 v)) (members d)
        trees = ap (map (shows_it P Q)) (asked_matching I u ms d v) ∙ each_shows _ _ P Q (members d)

  -- ---- where `additionalProperties` stands for it

  module _ (restricted : restricts (read_members to_meaning ms) ≡ true) where
    table_asked : sum_by (λ m. asks_at W (read_members to_meaning ms) (read to_meaning d) m.0) (members v) ≡ sum_by
        (λ x. patterns_asked W (declared_beside ms) (members d) x.0) (members v)
    table_asked =
        λ i. sum_by (λ m. cond (restricted i && declared_read to_meaning ms m.0 i) (count_by (λ t. is_unfinished (W.says t m.0)) (open_read W to_meaning d i))
        (length (open_read W to_meaning d i))) (members v)

    -- member by member the schemas of the patterns that match, and the matchers that are asked of its name
    pub pattern_properties_asks_beside : member_asks I ms (codes "patternProperties", d) pattern_properties u v ≡ sum_by
        (λ x. matching_asks I u (declared_beside ms) (members d) x + patterns_asked W (declared_beside ms) (members d) x.0) (members v)
    unfolding meaning
    pattern_properties_asks_beside = (λ i. sum_by asks_it (asked_matching I u ms d v i) + table_asked i)
        ∙ ap (λ n. n + sum_by (λ x. patterns_asked W (declared_beside ms) (members d) x.0) (members v)) (each_asks _ _ (members d)
        ∙ sum_by-exchanged (λ e x. matches W u e.0 x.0) (λ e x. asks I u e.1 x.1) (members d) (members v))
        ∙ sym (sum_of_both (matching_asks I u (declared_beside ms) _) (λ x. patterns_asked W _ _ x.0) (members v))

pub pattern_properties_told : {W : World} (I : Steps W) (ms : Members) (d : Data) → IsKeywordTold I ms (codes "patternProperties", d) pattern_properties (patterns_told I (members d))
pattern_properties_told I ms d = record {
  verdict = pattern_properties_accepts I ms d;
  asked = λ free u v. pattern_properties_asks I ms d u v (restricted_read (I.means u) ms ∙ sym (and-true (is_restricted ms)) ∙ free);
  faults = λ u v P Q. ∼_same (sym (pattern_properties_report I ms d u v P Q));
  shown = λ u free v. pattern_properties_child I ms d u v free;
}

-- ---- what is wrong with it, and the places that it reads

-- a pattern that does not build, at its place
abbrev pub unbuilt : World → Data → Path → List Fault
unbuilt W d L = map (λ t. refusal Regex (string t) (L // t)) (filter_once (λ t. not (W.builds t)) (open_names W d))

module _ {X : Type 0} (step : Schema X → X) (d : Data) (k : Name) where
  pub pattern_properties_refusals : (W : World) (L : Path) → own_refusals W k (read step d) L pattern_properties ≡ unless_object d L ++ unbuilt W d L
  pattern_properties_refusals W L = λ i. unless_object (schema_of_read step d i) L ++ map (λ t. refusal Regex (string t) (L // t)) (filter_once (λ t. not (W.builds t)) (open_read W step d i))

module _ {W : World} (I : Steps W) (ms : Members) (d : Data) where
  -- a matcher for each pattern that has no test, and what is asked for a table
  abbrev pub tables_asked : Cost
  tables_asked =
      record no_cost {
        table_asks = cond (restricts (read_members I.costs ms))
            (length (entries_at (read_members I.costs ms) (codes "properties")) * length (open_patterns W (read I.costs d))) 0;
      }

  pub pattern_properties_own_cost : own_cost W (read_members I.costs ms) (read I.costs d) pattern_properties ≡ matchers_made W d ⊕ tables_asked
  pattern_properties_own_cost = λ i. record no_cost { pattern_places = made i; table_asks = asked i }
    where
      made : length (open_patterns W (read I.costs d)) ≡ length (open_names W d) + 0
      made = ap length (open_read W I.costs d) ∙ omega arith

      asked : tables_asked.table_asks ≡ 0 + tables_asked.table_asks
      asked = omega arith

  pub pattern_properties_free_cost : restricts (read_members I.costs ms) ≡ false → own_cost W (read_members I.costs ms) (read I.costs d) pattern_properties ≡ matchers_made W d
  pattern_properties_free_cost free = pattern_properties_own_cost ∙ ap (λ b. matchers_made W d ⊕ record no_cost {
    table_asks = cond b
        (length (entries_at (read_members I.costs ms) (codes "properties")) * length (open_patterns W (read I.costs d))) 0;
  }) free ∙ sum_last _

  -- each of its matchers is asked for each declared name
  pub pattern_properties_table_cost : restricts (read_members I.costs ms) ≡ true → own_cost W (read_members I.costs ms) (read I.costs d) pattern_properties
      ≡ matchers_made W d ⊕ record no_cost { table_asks = length (declared_beside ms) * length (open_names W d) }
  pattern_properties_table_cost restricted = pattern_properties_own_cost ∙ ap (λ n. matchers_made W d ⊕ record no_cost { table_asks = n })
      ((λ i. cond (restricted i) (length (entries_beside I.costs ms (codes "properties") i) * length (open_read W I.costs d i)) 0)
      ∙ ap (λ n. n * length (open_names W d)) (length-map (declared_beside ms) (entry I.costs)))

  -- of each name that is known to be declared
  pub pattern_properties_known_cost : own_cost W (read_members I.costs ms) (read I.costs d) pattern_properties ≡ matchers_made W d ⊕ names_asked W (known_of ms).declared d
  pattern_properties_known_cost = by (is_restricted ms) refl
    where
      by : (b : Bool) → is_restricted ms ≡ b → own_cost W (read_members I.costs ms) (read I.costs d) pattern_properties ≡ matchers_made W d ⊕ names_asked W
          (cond b (declared_beside ms) []) d
      by true e = pattern_properties_table_cost (restricted_read I.costs ms ∙ e)
      by false e =
          pattern_properties_free_cost (restricted_read I.costs ms ∙ e) ∙ sym (sum_last _) ∙ ap (λ n. matchers_made W d ⊕ record no_cost { table_asks = n }) of_no_names
        where
          of_no_names : 0 ≡ 0 * length (open_names W d)
          of_no_names = omega arith

-- ---- one pattern after another

module _ (W : World) where
  pub made_together : (es : Rows) → total_cost (λ e. matcher_made W e.0) es ≡ record no_cost { pattern_places = length (filter_once (is_open W) (map (λ e. e.0) es)) }
  made_together [] = refl
  made_together (e ∷ es) = ap (λ c. matcher_made W e.0 ⊕ c) (made_together es) ∙ by (is_open W e.0)
    where
      by : (b : Bool) → cond b (record no_cost { pattern_places = 1 }) no_cost ⊕ record no_cost {
        pattern_places = length (filter_once (is_open W) (map (λ e. e.0) es));
      } ≡ record no_cost { pattern_places = length (put_if b e.0 (filter_once (is_open W) (map (λ e. e.0) es))) }
      by true = λ i. record no_cost { pattern_places = one_more i }
        where
          one_more : 1 + length (filter_once (is_open W) (map (λ e. e.0) es)) ≡ length (e.0 ∷ filter_once (is_open W) (map (λ e. e.0) es))
          one_more = omega arith
      by false = λ i. record no_cost { pattern_places = none i }
        where
          none : 0 + length (filter_once (is_open W) (map (λ e. e.0) es)) ≡ length (filter_once (is_open W) (map (λ e. e.0) es))
          none = omega arith

  pub unbuilt_together : (L : Path) (es : Rows) → flat_map (λ e. pattern_faults W L e.0) es ≡ map (λ t. refusal Regex (string t) (L // t))
      (filter_once (λ t. not (W.builds t)) (filter_once (is_open W) (map (λ e. e.0) es)))
  unbuilt_together L [] = refl
  unbuilt_together L (e ∷ es) = ap (λ fs. pattern_faults W L e.0 ++ fs) (unbuilt_together L es) ∙ by (is_open W e.0) (W.builds e.0) refl
    where
      by : (b c : Bool) → W.builds e.0 ≡ c → put_if (b && not c) (refusal Regex (string e.0) (L // e.0)) [] ++ map (λ t. refusal Regex (string t) (L // t))
          (filter_once (λ t. not (W.builds t)) (filter_once (is_open W) (map (λ e. e.0) es)))
          ≡ map (λ t. refusal Regex (string t) (L // t)) (filter_once (λ t. not (W.builds t)) (put_if b e.0 (filter_once (is_open W) (map (λ e. e.0) es))))
      by true true q = ap (λ c. map (λ t. refusal Regex (string t) (L // t)) (put_if (not c) e.0 (filter_once (λ t. not (W.builds t)) (filter_once (is_open W) (map (λ e. e.0) es))))) (sym q)
      by true false q = ap (λ c. map (λ t. refusal Regex (string t) (L // t)) (put_if (not c) e.0 (filter_once (λ t. not (W.builds t)) (filter_once (is_open W) (map (λ e. e.0) es))))) (sym q)
      by false c q = refl
