-- What is read of `if`, `then` and `else`, and of the keywords beside `additionalProperties`.
use Rattle.std.proofs.Common.{◌≡◌, ◌+◌, Bool, true, false, not, cond, ◌&&◌, ◌||◌, List, [], ◌∷◌, ◌++◌, map, codes, is_some, Option, Some, None, option_to_list, sum_by, bytes_eq, refl, sym, ap, subst}
use Rattle.std.proofs.Common.{◌∙◌, append-nil, true≢false}
use Rattle.std.specs.List.{list_all, list_any, flat_map}
use Rattle.std.proofs.lemmas.List.Sums.{sum_by-cons}
use Rattle.std.proofs.Math.Bool.{or-true, and-true, or-false}
use Rattle.serde_json.specs.Data.{Data, Members}
use Rattle.olk_spec.specs.Names.{Name, Path, ◌//◌, lookup_name, put_if, filter_once, is_among, is_empty}
use Rattle.olk_spec.specs.Vocabulary.{if_keyword, keyword_named}
use Rattle.olk_spec.specs.Schemas.{Sub, Schema, Keywords, read, read_members, listed, wholes_at, is_object, is_truth, is_present, members, entries_at}
use Rattle.olk_spec.specs.Malformed.{read_places, places_where, itself}
use Rattle.olk_spec.specs.Meanings.{Meaning, restricts, is_conditional, if_accepts, if_refuses, Asked, asked, is_declared, matching, additional}
use Rattle.olk_spec.specs.Tree.{Tree, plain}
use Rattle.olk_spec.proofs.Walks.{same_name}
use Rattle.olk_spec.proofs.Reading.{place, lookup_listed, whole_read, is_present_read, wholes_there, wholes_absent, wholes_at_read, entry, entries_at_read}
use Rattle.olk_meaning.specs.Members.{member_accepts, member_asks, member_report, member_child, member_standing}
use Rattle.olk_meaning.specs.Conditions.{is_condition, is_conditional_name, is_restriction, is_restricted, Known, IsKnown}
use Rattle.olk_meaning.specs.Chosen.{Placed, if_form}
use Rattle.olk_meaning.proofs.Facts.{accepts_it, asks_it, finds_it, nothing_first, nothing_last}
use Rattle.olk_spec.proofs.Maps.{map-map, filter_once-map, is_empty-map}
use Rattle.olk_meaning.specs.AdditionalProperties.{entries_in, declared_beside, patterns_beside, has_beside, is_declared_in, matching_at, is_other, other_members}
use Rattle.olk_spec.specs.{World.World, Trees.case_trees, Reports.has_neighbour}
use Rattle.olk_meaning.specs.Steps.{Steps, accepts, asks, report, tree, meaning}
use Rattle.olk_meaning.proofs.{Claims.absent_if, Listed.filter_once-same}

-- ---- the three names

-- what holds of the three holds of each such name
pub of_conditional : (P : Name → Type 0) → P (codes "if") → P (codes "then") → P (codes "else") → (k : Name) → is_conditional_name k ≡ true → P k
of_conditional P x y z k e = by (bytes_eq k _) _ _ refl refl refl e
  where
    by : (a b c : Bool) → bytes_eq k (codes "if") ≡ a → bytes_eq k (codes "then") ≡ b → bytes_eq k (codes "else") ≡ c → (a || (b || (c || false))) ≡ true → P k
    by true b c p q r h = subst P (sym (same_name k _ p)) x
    by false true c p q r h = subst P (sym (same_name k _ q)) y
    by false false true p q r h = subst P (sym (same_name k _ r)) z
    by false false false p q r h = absurd (true≢false (sym h))

-- beside `then`, and beside `else`, `if` is read where it is there
module _ (ms : Members) where
  if_beside_then : is_some (lookup_name (codes "then") (listed ms)) ≡ true → is_condition ms ≡ is_some (lookup_name (codes "if") (listed ms))
  if_beside_then there = ap (λ b. is_some (lookup_name (codes "if") (listed ms)) && (b || is_some (lookup_name (codes "else") (listed ms)))) there ∙ and-true _

  if_beside_else : is_some (lookup_name (codes "else") (listed ms)) ≡ true → is_condition ms ≡ is_some (lookup_name (codes "if") (listed ms))
  if_beside_else there = ap (λ b. is_some (lookup_name (codes "if") (listed ms)) && (is_some (lookup_name (codes "then") (listed ms)) || b)) there
      ∙ ap (λ b. is_some (lookup_name (codes "if") (listed ms)) && b) (or-true _) ∙ and-true _

module _ {X : Type 0} (step : Schema X → X) (ms : Members) where
  pub present : (k : Name) → is_some (lookup_name k (read_members step ms)) ≡ is_some (lookup_name k (listed ms))
  present k = is_present_read step ms k ∙ ap is_some (sym (lookup_listed k ms))

  pub condition_read : is_conditional (read_members step ms) ≡ is_condition ms
  condition_read = λ i. present (codes "if") i && (present (codes "then") i || present (codes "else") i)

  pub restricted_read : restricts (read_members step ms) ≡ is_restricted ms
  restricted_read = ap (list_any (λ s. is_truth false s.schema || is_object s.schema)) (wholes_at_read step ms (codes "additionalProperties")) ∙ by _
      ∙ ap is_restriction (sym (lookup_listed (codes "additionalProperties") ms))
    where
      by : (o : Option Data) → list_any (λ (s : Sub X). is_truth false s.schema || is_object s.schema) (map (place step) (option_to_list o)) ≡ is_restriction o
      by None = refl
      by (Some d) = or-false _

  -- ---- the places that are read

  module _ (W : World) (k : Name) (d : Data) (c : Known) (known : IsKnown c ms k) where
    abbrev PlacesByCondition : Name → Type 0
    PlacesByCondition n = read_places n (read_members step ms) (read step d) (keyword_named W n) ≡ places_where n c.condition (itself n (read step d).whole)

    -- itself, where `if` is read
    pub places_by_condition : is_conditional_name k ≡ true → PlacesByCondition k
    places_by_condition e = of_conditional (λ n. is_some (lookup_name n (listed ms)) ≡ true → PlacesByCondition n)
        (λ there. ap (λ b. places_where (codes "if") b (itself (codes "if") (read step d).whole)) (condition_read ∙ sym (known e).0))
        (λ there. ap (λ b. places_where (codes "then") b (itself (codes "then") (read step d).whole)) (present (codes "if") ∙ sym (if_beside_then ms there) ∙ sym (known e).0))
        (λ there. ap (λ b. places_where (codes "else") b (itself (codes "else") (read step d).whole)) (present (codes "if") ∙ sym (if_beside_else ms there) ∙ sym (known e).0))
        k e (known e).1

-- what is shown where the test holds, of the schema that stands there
module _ {W : World} (I : Steps W) (u : Bool) (v : Data) where
  abbrev pub case_shown : Bool → Path → Path → Option Data → List Tree
  case_shown b L Q None = []
  case_shown b L Q (Some d) = put_if b (tree I u d v L Q) []

module _ {W : World} (I : Steps W) (ms : Members) (u : Bool) (v : Data) where
  -- a schema, with its parts' meanings, to its own
  abbrev to_meaning : Schema Meaning → Meaning
  to_meaning = I.means u

  abbrev neighbours : Keywords Meaning
  neighbours = read_members to_meaning ms

  -- ---- where `if` is not read

  module _ (d : Data) (alone : is_condition ms ≡ false) where
    pub if_shows_alone : (P Q : Path) → member_child I ms (codes "if", d) if_keyword u v P Q ≡ []
    if_shows_alone P Q = ap (λ b. put_if b (plain (P // codes "if") Q (put_if ((read to_meaning d).whole.answer.accepts v)
        ((read to_meaning d).whole.answer.tree v (P // codes "if") Q) [] ++ case_trees W u neighbours v P Q (codes "if") (read to_meaning d)
        ((read to_meaning d).whole.answer.accepts v) (codes "then") ++ case_trees W u neighbours v P Q (codes "if") (read to_meaning d)
        (not ((read to_meaning d).whole.answer.accepts v)) (codes "else"))) []) (condition_read to_meaning ms ∙ alone)

  -- ---- `then` and `else`

  -- the member at k, which is e, asks it of the whole value where c holds
  pub record AskedWhere (c : Bool) (k : Name) (e : Data) : Type 0 where
    pub verdict : member_accepts I ms (k, e) (keyword_named W k) u v ≡ cond c (accepts I u e v) true
    pub asked : member_asks I ms (k, e) (keyword_named W k) u v ≡ cond c (asks I u e v) 0
    pub faults : (P Q : Path) → member_report I ms (k, e) (keyword_named W k) u v P Q ≡ cond c (report I u e v (P // k) Q) []

  module _ (e : Data) where
    abbrev asked_where : Bool → Name → List Asked
    asked_where b k = put_if b (asked (read to_meaning e).whole v (k ∷ []) []) []

    accepted_where : (b : Bool) (k : Name) → (list_all accepts_it (asked_where b k) && true) ≡ cond b (accepts I u e v) true
    unfolding meaning
    accepted_where true k = and-true _ ∙ and-true _
    accepted_where false k = refl

    asks_where : (b : Bool) (k : Name) → sum_by asks_it (asked_where b k) + 0 ≡ cond b (asks I u e v) 0
    unfolding meaning
    asks_where true k = nothing_last _ ∙ sum_by-cons asks_it (asked (read to_meaning e).whole v (k ∷ []) []) [] ∙ nothing_last _
    asks_where false k = refl

    found_where : (b : Bool) (k : Name) (P Q : Path) → flat_map (finds_it P Q) (asked_where b k) ++ [] ≡ cond b (report I u e v (P // k) Q) []
    unfolding meaning
    found_where true k P Q = append-nil _ ∙ append-nil _
    found_where false k P Q = refl

    pub then_where : (c : Bool) → if_accepts neighbours v ≡ c → AskedWhere c (codes "then") e
    then_where c q = record {
      verdict = ap (λ b. list_all accepts_it (asked_where b (codes "then")) && true) q ∙ accepted_where c (codes "then");
      asked = ap (λ b. sum_by asks_it (asked_where b (codes "then")) + 0) q ∙ asks_where c (codes "then");
      faults = λ P Q. ap (λ b. flat_map (finds_it P Q) (asked_where b (codes "then")) ++ []) q ∙ found_where c (codes "then") P Q;
    }

    pub else_where : (c : Bool) → if_refuses neighbours v ≡ c → AskedWhere c (codes "else") e
    else_where c q = record {
      verdict = ap (λ b. list_all accepts_it (asked_where b (codes "else")) && true) q ∙ accepted_where c (codes "else");
      asked = ap (λ b. sum_by asks_it (asked_where b (codes "else")) + 0) q ∙ asks_where c (codes "else");
      faults = λ P Q. ap (λ b. flat_map (finds_it P Q) (asked_where b (codes "else")) ++ []) q ∙ found_where c (codes "else") P Q;
    }

  -- ---- where `if` is not there, or is read

  no_if : lookup_name (codes "if") (listed ms) ≡ None → wholes_at neighbours (codes "if") ≡ []
  no_if absent = wholes_absent to_meaning ms (codes "if") (sym (lookup_listed (codes "if") ms) ∙ absent)

  -- `if` is d
  module _ (d : Data) (there : lookup_name (codes "if") (listed ms) ≡ Some d) where
    at_if : wholes_at neighbours (codes "if") ≡ place to_meaning d ∷ []
    at_if = wholes_there to_meaning ms (codes "if") d (sym (lookup_listed (codes "if") ms) ∙ there)

    pub if_holds : if_accepts neighbours v ≡ accepts I u d v
    unfolding meaning
    if_holds = ap (list_any _) at_if ∙ or-false _

    pub if_fails : if_refuses neighbours v ≡ not (accepts I u d v)
    unfolding meaning
    if_fails = ap (list_any _) at_if ∙ or-false _

    module _ (read_here : is_condition ms ≡ true) where
      pub if_asks_beside : member_asks I ms (codes "if", d) if_keyword u v ≡ asks I u d v
      unfolding meaning
      if_asks_beside = nothing_first _ ∙ ap (λ b. cond b ((read to_meaning d).whole.answer.asks v) 0) (condition_read to_meaning ms ∙ read_here)

  -- what stands at a name, shown where the test holds
  case_read : (d : Data) (b : Bool) (k : Name) (P Q : Path) → case_trees W u neighbours v P Q (codes "if") (read to_meaning d) b k ≡ case_shown I u v b (P // k) Q (lookup_name k (listed ms))
  unfolding meaning
  case_read d b k P Q = ap (flat_map (λ s. put_if b _ [])) (wholes_at_read to_meaning ms k ∙ ap (λ o. map (place to_meaning) (option_to_list o))
      (sym (lookup_listed k ms))) ∙ by (lookup_name k (listed ms))
    where
      by : (o : Option Data) → flat_map (λ s. put_if b (s.answer.tree v (P // k) Q) []) (map (place to_meaning) (option_to_list o)) ≡ case_shown I u v b (P // k) Q o
      by None = refl
      by (Some d) = append-nil _

  pub if_shows_beside : (d : Data) → is_condition ms ≡ true → (P Q : Path) → member_child I ms (codes "if", d) if_keyword u v P Q
      ≡ plain (P // codes "if") Q (put_if (accepts I u d v) (tree I u d v (P // codes "if") Q) [] ++ case_shown I u v (accepts I u d v) (P // codes "then") Q
      (lookup_name (codes "then") (listed ms)) ++ case_shown I u v (not (accepts I u d v)) (P // codes "else") Q (lookup_name (codes "else") (listed ms))) ∷ []
  unfolding meaning
  if_shows_beside d e P Q = λ i. put_if ((condition_read to_meaning ms ∙ e) i)
      (plain (P // codes "if") Q (put_if ((whole_read to_meaning d i).answer.accepts v) ((whole_read to_meaning d i).answer.tree v (P // codes "if") Q) []
      ++ case_read d ((whole_read to_meaning d i).answer.accepts v) (codes "then") P Q i
      ++ case_read d (not ((whole_read to_meaning d i).answer.accepts v)) (codes "else") P Q i)) []

-- ---- one of the three where none is read

-- it accepts everything, finds nothing, shows nothing and has no validator
pub record MeansNothing {W : World} (I : Steps W) (ms : Members) (m : Name × Data) : Type 0 where
  pub verdict : (u : Bool) (v : Data) → member_accepts I ms m (keyword_named W m.0) u v ≡ true
  pub report : (u : Bool) (v : Data) (P Q : Path) → member_report I ms m (keyword_named W m.0) u v P Q ≡ []
  pub child : (u : Bool) (v : Data) (P Q : Path) → member_child I ms m (keyword_named W m.0) u v P Q ≡ []
  pub stands : (P : Path) → member_standing I ms m (keyword_named W m.0) P ≡ []

pub unpaired_means_nothing : {W : World} (I : Steps W) (ms : Members) (m : Name × Data) → is_conditional_name m.0 ≡ true → is_condition ms ≡ false
    → is_some (lookup_name m.0 (listed ms)) ≡ true → MeansNothing I ms m
unpaired_means_nothing I ms m e unread there = of_conditional (λ n. is_some (lookup_name n (listed ms)) ≡ true → MeansNothing I ms (n, m.1))
    (λ here. record {
      verdict = λ u v. refl;
      report = λ u v P Q. refl;
      child = λ u v P Q. if_shows_alone I ms u v m.1 unread P Q;
      stands = λ P. ap (λ b. cond b (if_standing P) []) (condition_read I.stands ms ∙ unread);
    }) (λ here. let none = absent (codes "if") (if_beside_then ms here) in record {
      verdict = λ u v. (then_where I ms u v m.1 false (ap (list_any _) (no_if I ms u v none))).verdict;
      report = λ u v. (then_where I ms u v m.1 false (ap (list_any _) (no_if I ms u v none))).faults;
      child = λ u v P Q. refl;
      stands = λ P. refl;
    }) (λ here. let none = absent (codes "if") (if_beside_else ms here) in record {
      verdict = λ u v. (else_where I ms u v m.1 false (ap (list_any _) (no_if I ms u v none))).verdict;
      report = λ u v. (else_where I ms u v m.1 false (ap (list_any _) (no_if I ms u v none))).faults;
      child = λ u v P Q. refl;
      stands = λ P. refl;
    })
    m.0 e there
  where
    absent : (n : Name) → is_condition ms ≡ is_some (lookup_name n (listed ms)) → lookup_name n (listed ms) ≡ None
    absent n q = absent_if _ (sym q ∙ unread)

    -- what would stand for `if`
    if_standing : Path → List Placed
    if_standing P = let S = read_members I.stands ms in
        (P // codes "if", if_form (is_present S (codes "then")) (is_present S (codes "else")))
        ∷ ((read I.stands m.1).whole.answer (P // codes "if") ++ flat_map (λ s. s.answer (P // codes "then")) (wholes_at S (codes "then")) ++ flat_map (λ s. s.answer (P // codes "else")) (wholes_at S (codes "else")))

-- ---- what stands beside `additionalProperties` as it is read, over the raw data of the members

module _ {X : Type 0} (step : Schema X → X) (ms : Members) where
  pub entries_beside : (k : Name) → entries_at (read_members step ms) k ≡ map (entry step) (entries_in (lookup_name k (listed ms)))
  entries_beside k = entries_at_read step ms k ∙ ap (λ o. flat_map (λ d. map (entry step) (members d)) (option_to_list o)) (sym (lookup_listed k ms)) ∙ by (lookup_name k (listed ms))
    where
      by : (o : Option Data) → flat_map (λ d. map (entry step) (members d)) (option_to_list o) ≡ map (entry step) (entries_in o)
      by None = refl
      by (Some d) = append-nil _

  pub neighbour_read : has_neighbour (read_members step ms) ≡ has_beside ms
  neighbour_read = λ i. present step ms (codes "properties") i || present step ms (codes "patternProperties") i

  pub declared_read : (n : Name) → is_declared (read_members step ms) n ≡ is_declared_in (declared_beside ms) n
  declared_read n = ap (λ es. is_among n (map {A = Name × Sub X} (λ e. e.0) es)) (entries_beside (codes "properties"))
      ∙ ap (is_among n) (map-map {X = Name × Sub X} {Y = Name × Data} (λ e. e.0) _ (entry step) (λ e. refl) _)

  module _ (W : World) (u : Bool) where
    pub matching_read : (n : Name) → matching (read_members step ms) W u n ≡ map (entry step) (matching_at W u (patterns_beside ms) n)
    matching_read n = ap (filter_once _) (entries_beside (codes "patternProperties")) ∙ filter_once-map _ _ (entry step) (λ e. refl) (patterns_beside ms)

    pub other_read : (n : Name) → (not (is_declared (read_members step ms) n) && is_empty (matching (read_members step ms) W u n)) ≡ is_other W u (declared_beside ms) (patterns_beside ms) n
    other_read n = λ i. not (declared_read n i) && (ap is_empty (matching_read n) ∙ is_empty-map (entry step) _) i

    pub additional_read : (v : Data) → additional (read_members step ms) W u v ≡ other_members W u (declared_beside ms) (patterns_beside ms) v
    additional_read v = filter_once-same _ _ (λ m. other_read m.0) (members v)
