-- What `additionalProperties` that is false or an object asks for together with all that it takes over, member by member, over raw data.
use Rattle.std.specs.Prelude.{ℕ, ◌+◌, Bool, true, false, not, cond, ◌&&◌, ◌||◌, List, [], ◌++◌, map, length, Option, Some, None, option_to_list, is_some, codes, sum_by, count_by}
use Rattle.std.specs.List.{list_all, flat_map}
use Rattle.serde_json.specs.Data.{Data, string, array, no_items, item, Members}
use Rattle.olk_spec.specs.Names.{Name, Text, Path, ◌//◌, lookup_name, filter_once, is_among, is_empty}
use Rattle.olk_spec.specs.World.{World, is_unfinished}
use Rattle.olk_spec.specs.Schemas.{listed, members, is_object, is_truth}
use Rattle.olk_spec.specs.Meanings.{matches, is_open}
use Rattle.olk_meaning.specs.Steps.{Steps, accepts, asks, report, tree}
use Rattle.olk_spec.specs.Reports.{unexpected_faults, required_faults}
use Rattle.olk_spec.specs.Tree.{Tree, node, no_tree, result, erring, described}
use Rattle.olk_meaning.specs.Fused.{fused_one}
use Rattle.olk_spec.specs.{Faults.Fault, Accepts.missing, Trees.where_so}

-- what it may be: an object, true or false
abbrev pub is_rule : Data → Bool
is_rule d = is_object d || is_truth true d || is_truth false d

-- ---- what stands beside it

-- the member of a name, if there is one
abbrev pub rows_at : Name → Members → List (Name × Data)
rows_at k ms = map (λ d. (k, d)) (option_to_list (lookup_name k (listed ms)))

-- `required` of one name, where it is taken over
abbrev pub fused_rows : Members → List (Name × Data)
fused_rows ms = map (λ n. (codes "required", array (item (string n) no_items))) (option_to_list (fused_one ms))

-- the entries of an object, none where there is none
abbrev pub entries_in : Option Data → List (Name × Data)
entries_in None = []
entries_in (Some d) = members d

-- the schemas that `properties` declares under their names, and those of `patternProperties` under their patterns
abbrev pub declared_beside : Members → List (Name × Data)
declared_beside ms = entries_in (lookup_name (codes "properties") (listed ms))

abbrev pub patterns_beside : Members → List (Name × Data)
patterns_beside ms = entries_in (lookup_name (codes "patternProperties") (listed ms))

-- the name that is required, none or one
abbrev pub required_beside : Members → List Name
required_beside ms = option_to_list (fused_one ms)

-- the two stand there; where one does, members that are not expected are told by name
abbrev pub declares_beside : Members → Bool
declares_beside ms = is_some (lookup_name (codes "properties") (listed ms))

abbrev pub matches_beside : Members → Bool
matches_beside ms = is_some (lookup_name (codes "patternProperties") (listed ms))

abbrev pub has_beside : Members → Bool
has_beside ms = declares_beside ms || matches_beside ms

-- ---- member by member: fs are the declared schemas, es those of the patterns, and d is the rest

module _ (fs : List (Name × Data)) where
  abbrev pub is_declared_in : Name → Bool
  is_declared_in n = is_among n (map (λ e. e.0) fs)

  -- the schema that is declared at a name, none or one
  abbrev pub declared_at : Name → List Data
  declared_at n = option_to_list (lookup_name n fs)

module _ (W : World) where
  -- the patterns that the matcher is asked for
  abbrev pub open_among : List (Name × Data) → List Text
  open_among es = filter_once (is_open W) (map (λ e. e.0) es)

  -- how many matchers are asked of a name: of a declared one those that leave it unfinished, of another each
  abbrev pub patterns_asked : List (Name × Data) → List (Name × Data) → Name → ℕ
  patterns_asked fs es n = cond (is_declared_in fs n) (count_by (λ t. is_unfinished (W.says t n)) (open_among es)) (length (open_among es))

  -- the schemas whose pattern matches a name
  abbrev pub matching_at : Bool → List (Name × Data) → Name → List (Name × Data)
  matching_at u es n = filter_once (λ e. matches W u e.0 n) es

module _ (W : World) (u : Bool) (fs es : List (Name × Data)) where
  -- it is neither declared nor matched
  abbrev pub is_other : Name → Bool
  is_other n = not (is_declared_in fs n) && is_empty (matching_at W u es n)

  abbrev pub other_members : Data → List (Name × Data)
  other_members v = filter_once (λ x. is_other x.0) (members v)

  -- where the rest is false, the members that are not expected are told together
  abbrev pub others_report : Path → Path → Bool → Data → Data → List Fault
  others_report P Q named d v = cond (is_truth false d) (unexpected_faults named (other_members v) v (P // codes "additionalProperties") Q) []

  -- a name for each match, member by member, and the names of the others
  abbrev pub names_matched : Data → List Name
  names_matched v = flat_map (λ x. map (λ e. x.0) (matching_at W u es x.0)) (members v)

  abbrev pub other_names : Data → List Name
  other_names v = map (λ x. x.0) (other_members v)

module _ {W : World} (I : Steps W) (u : Bool) (fs es : List (Name × Data)) where
  -- ---- a member is accepted by its declared schema, by those of its patterns, and where there is neither by the rest

  abbrev pub declared_accepts : Name × Data → Bool
  declared_accepts x = list_all (λ s. accepts I u s x.1) (declared_at fs x.0)

  abbrev pub matching_accept : Name × Data → Bool
  matching_accept x = list_all (λ e. accepts I u e.1 x.1) (matching_at W u es x.0)

  abbrev pub rest_accepts : Data → Name × Data → Bool
  rest_accepts d x = not (is_other W u fs es x.0) || accepts I u d x.1

  abbrev pub each_accepts : Data → Name × Data → Bool
  each_accepts d x = declared_accepts x && matching_accept x && rest_accepts d x

  -- ---- what these find in it, where the schema object stands at P and the value at Q

  module _ (P Q : Path) where
    abbrev pub declared_report : Name × Data → List Fault
    declared_report x = flat_map (λ s. report I u s x.1 (P // codes "properties" // x.0) (Q // x.0)) (declared_at fs x.0)

    abbrev pub matching_report : Name × Data → List Fault
    matching_report x = flat_map (λ e. report I u e.1 x.1 (P // codes "patternProperties" // e.0) (Q // x.0)) (matching_at W u es x.0)

    abbrev pub rest_report : Data → Name × Data → List Fault
    rest_report d x = cond (is_other W u fs es x.0) (cond (is_object d) (report I u d x.1 (P // codes "additionalProperties") (Q // x.0)) []) []

    abbrev pub each_report : Data → Name × Data → List Fault
    each_report d x = declared_report x ++ matching_report x ++ rest_report d x

    -- ---- and what they show of it

    abbrev pub declared_shown : Name × Data → List Tree
    declared_shown x = map (λ s. tree I u s x.1 (P // codes "properties" // x.0) (Q // x.0)) (declared_at fs x.0)

    abbrev pub matching_shown : Name × Data → List Tree
    matching_shown x = map (λ e. tree I u e.1 x.1 (P // codes "patternProperties" // e.0) (Q // x.0)) (matching_at W u es x.0)

    abbrev pub rest_shown : Data → Name × Data → List Tree
    rest_shown d x = where_so (is_object d && is_other W u fs es x.0) (tree I u d x.1 (P // codes "additionalProperties") (Q // x.0))

    abbrev pub each_shown : Data → Name × Data → List Tree
    each_shown d x = declared_shown x ++ matching_shown x ++ rest_shown d x

  -- ---- and how many matchers are asked

  abbrev pub declared_asks : Name × Data → ℕ
  declared_asks x = sum_by (λ s. asks I u s x.1) (declared_at fs x.0)

  abbrev pub matching_asks : Name × Data → ℕ
  matching_asks x = sum_by (λ e. asks I u e.1 x.1) (matching_at W u es x.0)

  abbrev pub rest_asks : Data → Name × Data → ℕ
  rest_asks d x = cond (is_other W u fs es x.0) (asks I u d x.1) 0

  abbrev pub each_asks : Data → Name × Data → ℕ
  each_asks d x = declared_asks x + (matching_asks x + patterns_asked W fs es x.0) + rest_asks d x

-- ---- the child of `additionalProperties` in the tree of a value

-- one more child where the name that is required is missing
abbrev pub required_child : Members → Data → Path → Path → List Tree
required_child ms v P Q = where_so (not (is_empty (missing (required_beside ms) v))) (erring (P // codes "required") Q (required_faults (required_beside ms) v (P // codes "required") Q))

module _ (W : World) (u : Bool) (ms : Members) (v : Data) where
  -- a node for the names that patterns match, where no names are declared
  abbrev pub matched_child : Path → Path → List Tree
  matched_child P Q = where_so (matches_beside ms && not (declares_beside ms) && not (is_empty (names_matched W u (declared_beside ms) (patterns_beside ms) v)))
      (node (P // codes "patternProperties") Q true (Some (names_matched W u (declared_beside ms) (patterns_beside ms) v)) [] no_tree)

  -- the names of the others; where one of `properties` and `patternProperties` stands without the other, only if there are any
  abbrev pub names_shown : Data → Option (List Name)
  names_shown d = cond (is_object v && (is_object d && (cond (declares_beside ms) (matches_beside ms) (not (matches_beside ms)) || not (is_empty (other_names W u (declared_beside ms) (patterns_beside ms) v)))))
      (Some (other_names W u (declared_beside ms) (patterns_beside ms) v)) None

module _ {W : World} (I : Steps W) (u : Bool) (ms : Members) (v : Data) where
  abbrev pub restriction_shown : Data → Path → Path → Tree
  restriction_shown d P Q = result (P // codes "additionalProperties") Q (names_shown W u ms v d) false
      (described (others_report W u (declared_beside ms) (patterns_beside ms) P Q (has_beside ms) d v))
      (flat_map (each_shown I u (declared_beside ms) (patterns_beside ms) P Q d) (members v) ++ matched_child W u ms v P Q ++ required_child ms v P Q)
