-- What is asked of a member beside `additionalProperties`: what is declared at its name, what stands at the patterns that match it, and where there is neither the rest.
use Rattle.std.specs.Prelude.{ℕ, ◌+◌, Bool, true, false, not, ◌&&◌, ◌||◌, cond, List, [], ◌∷◌, ◌++◌, map, Option, Some, None, is_none, is_some, option_map, option_to_list, option_copied}
use Rattle.std.specs.List.{flat_map, enumerate_from}
use Rattle.serde_json.specs.Data.{Data}
use Rattle.olk_spec.specs.Names.{Name, Text, Path, ◌//◌, lookup_name, filter_once, put_if, is_empty}
use Rattle.olk_spec.specs.World.{Says, matched, unmatched, unfinished, reads_as}
use Rattle.olk_spec.specs.Faults.{Fault}
use Rattle.olk_spec.specs.Schemas.{is_object, members, at}
use Rattle.olk_spec.specs.Malformed.{has_repeat}
use Rattle.olk_spec.specs.Reports.{required_faults, unexpected_faults}
use Rattle.olk_spec.specs.Tree.{Tree, node, no_tree, described, result}
use Rattle.olk_base.specs.Compiled.{pattern_answers, pattern_costs}
use Rattle.olk_base.specs.declared.pattern.CompiledPattern.{CompiledPattern}
use Rattle.olk_tree.specs.Questions.{Question, always, said_to, both, conditional, every}
use Rattle.olk_tree.specs.Firsts.{or_else, first_of}
use Rattle.olk_tree.specs.Maps.{mapped, placed_entries}
use Rattle.olk_tree.specs.Tables.{Table, table_says}
use Rattle.olk_tree.specs.declared.additional_properties.SidesOf.{SidesOf}
use Rattle.olk_tree.specs.declared.properties_map.PropertiesMap.{PropertiesMap}

-- names with their places and nodes, patterns with their nodes, what is known of these at the places, and the node for the rest; with none the rest is not expected
pub record Sides (R N : Type 0) : Type 0 where
  pub declared : List (Name × (ℕ × N))
  pub patterns : List (CompiledPattern R × N)
  pub known : ℕ → ℕ → Says
  pub rest : Option N

-- what stands beside names, with its place
abbrev pub placed : {N : Type 0} → List N → List (ℕ × N)
placed ns = enumerate_from 0 ns

-- ---- what the validators hold

-- what a validator of `additionalProperties` holds of it, of `properties`, of `patternProperties`, and of `required` of one name, with their places
pub record Held (R N : Type 0) : Type 0 where
  pub properties : Option (PropertiesMap N)
  pub patterns : Option (List (CompiledPattern R × N))
  pub table : Option Table
  pub rest : Option N
  pub required : Option (Text × Path)
  pub location : Path
  pub patterns_location : Path

-- each declared name with its place and its node, where there is a map
abbrev pub mapped_places : {N : Type 0} → Option (PropertiesMap N) → List (Name × (ℕ × N))
mapped_places None = []
mapped_places (Some m) = placed_entries (mapped m)

abbrev pub patterns_in : {R N : Type 0} → Option (List (CompiledPattern R × N)) → List (CompiledPattern R × N)
patterns_in None = []
patterns_in (Some es) = es

-- what is known by a table; without one, nothing
abbrev pub known_by : Option Table → ℕ → ℕ → Says
known_by None p i = unfinished
known_by (Some t) p i = table_says t p i

abbrev pub sides_of : {R N : Type 0} → Held R N → Sides R N
sides_of k = record { declared = mapped_places k.properties; patterns = patterns_in k.patterns; known = known_by k.table; rest = k.rest }

-- the same, of what a walk is given
abbrev pub sides_seen : {R N : Type 0} → SidesOf R N → Sides R N
sides_seen s = record { declared = mapped_places (option_copied s.properties); patterns = s.patterns.now; known = known_by (option_copied s.table); rest = option_copied s.rest }

-- `properties` or `patternProperties` is present beside it
abbrev pub has_neighbours : {R N : Type 0} → Held R N → Bool
has_neighbours k = is_some k.properties || is_some k.patterns

-- the name that `required` wants beside `additionalProperties`, if it is held there
abbrev pub required_text : Option (Text × Path) → List Text
required_text None = []
required_text (Some r) = r.0 ∷ []

abbrev pub required_place : Option (Text × Path) → Path
required_place None = []
required_place (Some r) = r.1

abbrev pub lacks : Option (Text × Path) → Data → Path → List Fault
lacks r v Q = required_faults (required_text r) v (required_place r) Q

-- what is known, and where nothing is, what is said
abbrev pub known_or : Says → Says → Says
known_or matched s = matched
known_or unmatched s = unmatched
known_or unfinished s = s

-- the same as questions: what is known is not asked
abbrev pub known_or_asked : Says → Question → Question
known_or_asked matched q = always true
known_or_asked unmatched q = always false
known_or_asked unfinished q = q

-- what is known of a pattern, where a name is declared
abbrev pub known_at : {R N : Type 0} → Sides R N → Option (ℕ × N) → ℕ → Says
known_at S None i = unfinished
known_at S (Some f) i = S.known f.0 i

module _ {R N : Type 0} (answers : R → Name → Says) (S : Sides R N) (d : Option (ℕ × N)) (n : Name) where
  -- does the pattern of this index match the name
  abbrev pub is_matched_by : Bool → ℕ → CompiledPattern R → Bool
  is_matched_by u i p = reads_as u (known_or (known_at S d i) (pattern_answers answers p n))

  -- the nodes of the patterns that match, from this index on
  abbrev pub matching_from : Bool → ℕ → List (CompiledPattern R × N) → List N
  matching_from u i [] = []
  matching_from u i (e ∷ es) = put_if (is_matched_by u i e.0) e.1 (matching_from u (i + 1) es)

abbrev pub at_name : {R N : Type 0} → Sides R N → Name → Option (ℕ × N)
at_name S n = lookup_name n S.declared

module _ {R N : Type 0} (answers : R → Name → Says) (S : Sides R N) where
  module _ (u : Bool) where
    -- the nodes of the patterns that match a name
    abbrev pub nodes_matching : Name → List N
    nodes_matching n = matching_from answers S (at_name S n) n u 0 S.patterns

    -- neither is it declared, nor does a pattern match it
    abbrev pub is_additional : Name → Bool
    is_additional n = is_none (at_name S n) && is_empty (nodes_matching n)

    -- the nodes that are asked of a member with this name: beside what is declared there, and all
    abbrev pub others_asked : Name → List N
    others_asked n = nodes_matching n ++ cond (is_additional n) (option_to_list S.rest) []

    abbrev pub nodes_asked : Name → List N
    nodes_asked n = option_to_list (option_map (λ f. f.1) (at_name S n)) ++ others_asked n

    -- members that are allowed nothing
    abbrev pub is_unexpected : Name → Bool
    is_unexpected n = is_none S.rest && is_additional n

    abbrev pub unexpected : Data → List (Name × Data)
    unexpected v = filter_once (λ x. is_unexpected x.0) (members v)

-- is a name repeated among the members: no object of this library has such members, but the definitions speak of them, and there the first member of a declared name counts
abbrev pub repeats : Data → Bool
repeats v = has_repeat (map (λ x. x.0) (members v))

-- ---- what it means

module _ {N : Type 0} (m : N → Data → Question) (x : Data) where
  -- what is declared at the name of a member, if anything is
  abbrev pub declared_means : Option (ℕ × N) → Question
  declared_means None = always true
  declared_means (Some f) = m f.1 x

  -- what is asked where nothing else speaks of it; with nothing it is not expected
  abbrev pub rest_means : Option N → Question
  rest_means None = always false
  rest_means (Some r) = m r x

module _ {R N : Type 0} (answers : R → Name → Says) (costs : R → Bool) (m : N → Data → Question) (S : Sides R N) where
  -- is the pattern of this index asked whether it matches
  abbrev pub match_asked : Option (ℕ × N) → Name → ℕ → CompiledPattern R → Question
  match_asked d n i p = known_or_asked (known_at S d i) (said_to (pattern_costs costs p) (pattern_answers answers p n))

  -- the patterns from this index on, where something else speaks of the member or nothing does
  abbrev pub patterns_mean_from : Option (ℕ × N) → Name → Data → Bool → ℕ → List (CompiledPattern R × N) → Question
  patterns_mean_from d n x spoken i [] = cond spoken (always true) (rest_means m x S.rest)
  patterns_mean_from d n x spoken i (e ∷ es) = conditional (match_asked d n i e.0) (both (m e.1 x) (patterns_mean_from d n x true (i + 1) es)) (patterns_mean_from d n x spoken (i + 1) es)

  -- what is declared at the member's name, and the patterns that match it, or else the rest
  abbrev pub member_means_at : Option (ℕ × N) → Name → Data → Question
  member_means_at d n x = both (declared_means m x d) (patterns_mean_from d n x (is_some d) 0 S.patterns)

  abbrev pub member_means : Name → Data → Question
  member_means n x = member_means_at (at_name S n) n x

  -- member by member
  abbrev pub means_in_turn : Data → Question
  means_in_turn v = every (λ x. member_means x.0 x.1) (members v)

  -- declared name by declared name, and then member by member what else is asked
  abbrev pub others_mean : Name → Data → Question
  others_mean n x = patterns_mean_from (at_name S n) n x (is_some (at_name S n)) 0 S.patterns

  abbrev pub named_means : Data → Question
  named_means v = both (every (λ e. every (m e.1.1) (at e.0 v)) S.declared) (every (λ x. others_mean x.0 x.1) (members v))

  abbrev pub additional_means : Data → Question
  additional_means v = cond (repeats v) (named_means v) (means_in_turn v)

-- ---- what it finds and shows

module _ {R N : Type 0} (answers : R → Name → Says) (S : Sides R N) (u : Bool) (v : Data) (Q : Path) where
  -- at a member, what the nodes find that are asked of it
  abbrev pub member_report : (N → Bool → Data → Path → List Fault) → Name × Data → List Fault
  member_report r x = flat_map (λ e. r e u x.1 (Q // x.0)) (nodes_asked answers S u x.0)

  abbrev pub others_report : (N → Bool → Data → Path → List Fault) → Name × Data → List Fault
  others_report r x = flat_map (λ e. r e u x.1 (Q // x.0)) (others_asked answers S u x.0)

  -- P is the place of the keyword; the names that are not expected are told by name where it has a neighbour
  module _ (named : Bool) (P : Path) where
    abbrev pub faults_of_unexpected : List Fault
    faults_of_unexpected = unexpected_faults named (unexpected answers S u v) v P Q

    -- member by member
    abbrev pub report_in_turn : (N → Bool → Data → Path → List Fault) → List Fault
    report_in_turn r = flat_map (member_report r) (members v) ++ faults_of_unexpected

    -- declared name by declared name, and then member by member what else is asked
    abbrev pub named_report : (N → Bool → Data → Path → List Fault) → List Fault
    named_report r = flat_map (λ e. flat_map (λ w. r e.1.1 u w (Q // e.0)) (at e.0 v)) S.declared ++ (flat_map (others_report r) (members v) ++ faults_of_unexpected)

    abbrev pub additional_report : (N → Bool → Data → Path → List Fault) → List Fault
    additional_report r = cond (repeats v) (named_report r) (report_in_turn r)

    -- at a member, the first fault, or that it is not expected
    abbrev pub member_first : (N → Bool → Data → Path → List Fault) → Name × Data → List Fault
    member_first s x = or_else (first_of (λ e. s e u x.1 (Q // x.0)) (nodes_asked answers S u x.0)) (cond (is_unexpected answers S u x.0) (unexpected_faults named (x ∷ []) v P Q) [])

    abbrev pub others_first : (N → Bool → Data → Path → List Fault) → Name × Data → List Fault
    others_first s x = or_else (first_of (λ e. s e u x.1 (Q // x.0)) (others_asked answers S u x.0)) (cond (is_unexpected answers S u x.0) (unexpected_faults named (x ∷ []) v P Q) [])

    abbrev pub first_in_turn : (N → Bool → Data → Path → List Fault) → List Fault
    first_in_turn s = first_of (member_first s) (members v)

    abbrev pub named_first : (N → Bool → Data → Path → List Fault) → List Fault
    named_first s = or_else (first_of (λ e. first_of (λ w. s e.1.1 u w (Q // e.0)) (at e.0 v)) S.declared) (first_of (others_first s) (members v))

    abbrev pub additional_first : (N → Bool → Data → Path → List Fault) → List Fault
    additional_first s = cond (repeats v) (named_first s) (first_in_turn s)

  -- the members that nothing else speaks of
  abbrev pub additional_names : List Name
  additional_names = map (λ x. x.0) (filter_once (λ x. is_additional answers S u x.0) (members v))

  -- a name for each match, member by member
  abbrev pub matched_names : List Name
  matched_names = flat_map (λ x. map (λ e. x.0) (nodes_matching answers S u x.0)) (members v)

  -- whether `properties` and `patternProperties` stand beside it
  module _ (declares has_patterns : Bool) where
    -- the names that the rest is asked of; where just one neighbour stands there, only if there are some
    abbrev pub additional_annotation : Option (List Name)
    additional_annotation = cond (is_object v && (is_some S.rest && (cond declares has_patterns (not has_patterns) || not (is_empty additional_names)))) (Some additional_names) None

    -- what patterns match, at the place of `patternProperties`, where that alone stands there
    abbrev pub matches_child : Path → List Tree
    matches_child P = put_if (has_patterns && not declares && not (is_empty matched_names)) (node P Q true (Some matched_names) [] no_tree) []

    abbrev pub additional_tree : Path → Path → (N → Data → Path → Tree) → List Tree → Tree
    additional_tree P M t more = result P Q additional_annotation false (described (faults_of_unexpected (declares || has_patterns) P))
        (flat_map (λ x. map (λ e. t e x.1 (Q // x.0)) (nodes_asked answers S u x.0)) (members v) ++ matches_child M ++ more)
