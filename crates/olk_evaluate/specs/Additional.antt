-- What is met of the members beside `additionalProperties`, and what is shown of it.
use Rattle.std.specs.Prelude.{◌≡◌, ℕ, Bool, true, false, not, ◌&&◌, ◌||◌, cond, List, [], ◌++◌, map, Option, Some, None, is_none, option_map, option_to_list, string_bytes}
use denote.Ref.{Bor}
use Rattle.std.specs.List.{flat_map}
use Rattle.serde_json.specs.Data.{Data}
use Rattle.olk_spec.specs.Names.{Name, Text, Path, ◌//◌, put_if, is_empty}
use Rattle.olk_spec.specs.World.{Says}
use Rattle.olk_spec.specs.Faults.{Fault, fault, AdditionalProperties}
use Rattle.olk_spec.specs.Tree.{Tree, node, no_tree}
use Rattle.olk_spec.specs.Accepts.{missing}
use Rattle.olk_reports.specs.Evaluations.{AddsErrors, Shown, annotated}
use Rattle.olk_tree.specs.Questions.{Question}
use Rattle.olk_tree.specs.Additional.{Sides, matching_from, at_name, required_text, required_place, additional_means, additional_tree}
use Rattle.olk_tree.specs.Shown.{missing_trees}
use Rattle.olk_evaluate.specs.Wanted.{Wanted, ShowsMore, wanted, accepted, refused, lacking_trees}
use Rattle.olk_evaluate.specs.declared.additional_members.Collected.{Collected}
use Rattle.olk_evaluate.specs.declared.sides.Beside.{Beside}
use Rattle.olk_evaluate.specs.declared.sides.Beside.TheVariants as beside

abbrev pub names_of : List (Bor (List ℕ)) → List Name
names_of = map (λ n. n.now)

-- ---- members

-- what children are to show, the names that nothing else speaks of, and a name for each match that is shown
pub record Found : Type 0 where
  pub wanted : List Wanted
  pub additional : List Name
  pub matched : List Name

-- what is found is collected and shown
pub record Collects (f : Found) (c : Collected) (s r : Shown) : Type 0 where
  pub additional : names_of c.additional.items ≡ f.additional
  pub matched : names_of c.matched.items ≡ f.matched
  pub shown : ShowsMore f.wanted s r

-- what is collected and shown grows by what is found
pub record CollectsMore (f : Found) (old new : Collected) (s r : Shown) : Type 0 where
  pub additional : names_of new.additional.items ≡ names_of old.additional.items ++ f.additional
  pub matched : names_of new.matched.items ≡ names_of old.matched.items ++ f.matched
  pub shown : ShowsMore f.wanted s r

module _ {N : Type 0} (t : N → Bool → Data → Path → Tree) (m : N → Data → Question) (u : Bool) (Q : Path) (n : Name) (x : Data) where
  -- what nodes are to show of a member
  abbrev pub nodes_wanted : List N → List Wanted
  nodes_wanted ns = map (λ e. wanted t m u e x (Q // n)) ns

-- a member, with what is declared at its name
module _ {R N : Type 0} (answers : R → Name → Says) (u : Bool) (S : Sides R N) (d : Option (ℕ × N)) (n : Name) where
  abbrev pub matching_at : List N
  matching_at = matching_from answers S d n u 0 S.patterns

  abbrev pub is_additional_at : Bool
  is_additional_at = is_none d && is_empty matching_at

  abbrev pub asked_at : List N
  asked_at = option_to_list (option_map (λ f. f.1) d) ++ (matching_at ++ cond is_additional_at (option_to_list S.rest) [])

-- with a name for each match, or without
module _ {R N : Type 0} (answers : R → Name → Says) (t : N → Bool → Data → Path → Tree) (m : N → Data → Question) (u : Bool) (Q : Path) (S : Sides R N) (named : Bool) where
  abbrev pub member_found : Option (ℕ × N) → Name → Data → Found
  member_found d n x = record {
    wanted = nodes_wanted t m u Q n x (asked_at answers u S d n);
    additional = put_if (is_additional_at answers u S d n) n [];
    matched = cond named (map (λ e. n) (matching_at answers u S d n)) [];
  }

  abbrev pub found_at : Name × Data → Found
  found_at x = member_found (at_name S x.0) x.0 x.1

  -- all members, one after the other
  abbrev pub members_found : List (Name × Data) → Found
  members_found xs = record {
    wanted = flat_map (λ x. (found_at x).wanted) xs;
    additional = flat_map (λ x. (found_at x).additional) xs;
    matched = flat_map (λ x. (found_at x).matched) xs;
  }

-- ---- what stands beside it

abbrev pub has_properties : Beside → Bool
has_properties beside.Nothing = false
has_properties beside.Properties = true
has_properties (beside.PropertiesWithRequired1 n P) = true
has_properties (beside.Patterns P) = false
has_properties beside.PropertiesAndPatterns = true

abbrev pub has_patterns : Beside → Bool
has_patterns beside.Nothing = false
has_patterns beside.Properties = false
has_patterns (beside.PropertiesWithRequired1 n P) = false
has_patterns (beside.Patterns P) = true
has_patterns beside.PropertiesAndPatterns = true

abbrev pub has_neighbours : Beside → Bool
has_neighbours b = has_properties b || has_patterns b

-- patterns alone: then a name is shown for each match
abbrev pub shows_matches : Beside → Bool
shows_matches b = has_patterns b && not (has_properties b)

-- where just one neighbour stands there
abbrev pub has_one : Beside → Bool
has_one b = cond (has_properties b) (not (has_patterns b)) (has_patterns b)

abbrev pub place_of_patterns : Beside → Path
place_of_patterns beside.Nothing = []
place_of_patterns beside.Properties = []
place_of_patterns (beside.PropertiesWithRequired1 n P) = []
place_of_patterns (beside.Patterns P) = P.now
place_of_patterns beside.PropertiesAndPatterns = []

-- the name that `required` wants, and its place
abbrev pub required_of : Beside → Option (Text × Path)
required_of beside.Nothing = None
required_of beside.Properties = None
required_of (beside.PropertiesWithRequired1 n P) = Some (string_bytes n.now, P.now)
required_of (beside.Patterns P) = None
required_of beside.PropertiesAndPatterns = None

-- what `additionalProperties` at P shows, with this beside it
module _ {R N : Type 0} (answers : R → Name → Says) (costs : R → Bool) (t : N → Bool → Data → Path → Tree) (m : N → Data → Question) (S : Sides R N) (b : Beside) where
  abbrev pub wanted_beside : Bool → Data → Path → Path → Wanted
  wanted_beside u v P Q = (
    additional_tree answers S u v Q (has_properties b) (has_patterns b) P (place_of_patterns b) (λ n. t n u)
        (missing_trees (required_text (required_of b)) v (required_place (required_of b)) Q),
    (additional_means answers costs m S v).accepts u && is_empty (missing (required_text (required_of b)) v),
  )

-- ---- what is shown besides

-- what patterns match, at their place
abbrev pub matches_shown : List Name → Path → Path → List Tree
matches_shown ns P Q = put_if (not (is_empty ns)) (node P Q true (Some ns) [] no_tree) []

-- what patterns match at their place, and what is missing of v, which w is the object of, at the place of `required`
abbrev pub places_wanted : Beside → List Name → Data → Data → Path → List Wanted
places_wanted b ns v w Q = accepted (cond (shows_matches b) (matches_shown ns (place_of_patterns b) Q) []) ++ refused (lacking_trees (required_text (required_of b)) v w (required_place (required_of b)) Q)

abbrev pub annotated_if : Option (List Name) → Shown → Shown
annotated_if None s = s
annotated_if (Some ns) s = annotated ns s

-- names that are not expected, told by name
abbrev pub named_faults : List Name → Data → Path → Path → List Fault
named_faults ns v P Q = put_if (not (is_empty ns)) (fault (AdditionalProperties ns) v Q P) []

module _ (b : Beside) where
  -- the names that the rest is asked of; where just one neighbour stands there, only if there are some
  abbrev pub rest_annotation : List Name → Option (List Name)
  rest_annotation ns = cond (not (has_one b) || not (is_empty ns)) (Some ns) None

  -- annotated by the rest, or with an error that tells the names where there is none
  abbrev pub Completes : Bool → List Name → Data → Shown → Shown → Type 0
  Completes has_rest ns v old new = (P Q : Path) → AddsErrors (cond has_rest [] (named_faults ns v P Q)) (annotated_if (cond has_rest (rest_annotation ns) None) old) new
