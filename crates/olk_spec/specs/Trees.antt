-- The tree that `evaluate` gives: which validators a schema object has, and what each of them shows.
use Rattle.std.specs.Prelude.{Bool, true, false, cond, not, ◌&&◌, ◌||◌, ◌==◌, nat_lt, nat_eq, List, [], ◌∷◌, ◌++◌, map, length, codes, Option, Some, None, option_to_list}
use Rattle.std.specs.List.{flat_map, list_any}
use Rattle.serde_json.specs.Data.{Data, string}
use Rattle.olk_spec.specs.Names.{Name, Path, ◌//◌, down, lookup_name, filter_once, put_if, is_empty, is_among}
use Rattle.olk_spec.specs.World.{World}
use Rattle.olk_spec.specs.declared.TheConstants.{HASHMAP_THRESHOLD}
use Rattle.olk_spec.specs.Vocabulary.{Keyword, properties, pattern_properties, additional_properties, property_names, required, dependent_required, dependent_schemas, dependencies, property_dependencies, all_of, any_of, one_of, not_keyword, if_keyword, leaf, keyword_named}
use Rattle.olk_spec.specs.Schemas.{Schema, truth, keywords, no_schema, Keywords, Part, is_object, is_array, is_truth, members, has, texts, names, branches, is_present, entries_at, names_at, wholes_at}
use Rattle.olk_spec.specs.Faults.{FalseSchema}
use Rattle.olk_spec.specs.Tree.{Tree, node, leaf_node, no_tree, described, result, plain, erring}
use Rattle.olk_spec.specs.Meanings.{Meaning, Subschema, holds, matches, matching, additional, restricts, is_declared, is_conditional, applied}
use Rattle.olk_spec.specs.Accepts.{missing, due, accepting}
use Rattle.olk_spec.specs.Reports.{required_faults, fault_if, own}

-- ---- which validators there are

abbrev pub are_two : List Name → Bool
are_two (n ∷ m ∷ []) = not (is_among n (m ∷ []))
are_two ns = false

module _ {X : Type 0} (S : Keywords X) where
  abbrev pub declares : Bool
  declares = is_present S (codes "properties")

  abbrev pub has_patterns : Bool
  has_patterns = is_present S (codes "patternProperties")

  -- the validator of `properties` takes `required`
  abbrev pub fuses_two : Bool
  fuses_two = declares && not (restricts S) && not has_patterns && nat_lt (length (entries_at S (codes "properties"))) HASHMAP_THRESHOLD && are_two (names_at S (codes "required"))

  -- that of `additionalProperties` takes it
  abbrev pub fuses_one : Bool
  fuses_one = declares && list_any (λ s. is_truth false s.schema) (wholes_at S (codes "additionalProperties")) && not has_patterns && nat_eq (length (names_at S (codes "required"))) 1

-- none or one, where the test holds
abbrev pub where_so : {A : Type 0} → Bool → A → List A
where_so b x = put_if b x []

module _ (W : World) (u : Bool) (S : Keywords Meaning) (v : Data) (P Q : Path) where
  -- what `properties` and `patternProperties` show of a member
  abbrev pub declared_trees : Name × Data → List Tree
  declared_trees m = map (λ s. s.answer.tree m.1 (P // codes "properties" // m.0) (Q // m.0)) (option_to_list (lookup_name m.0 (entries_at S (codes "properties"))))

  abbrev pub pattern_trees : Name × Data → List Tree
  pattern_trees m = map (λ e. e.1.answer.tree m.1 (P // codes "patternProperties" // e.0) (Q // m.0)) (matching S W u m.0)

  -- a name for each match, member by member
  abbrev pub matched_names : List Name
  matched_names = flat_map (λ m. map (λ e. m.0) (matching S W u m.0)) (members v)

  abbrev pub additional_names : List Name
  additional_names = map (λ m. m.0) (additional S W u v)

  -- `required` inside another validator: one more child where a name is missing
  abbrev pub missing_child : Bool → List Tree
  missing_child b = where_so (b && not (is_empty (missing (names_at S (codes "required")) v))) (erring (P // codes "required") Q (required_faults (names_at S (codes "required")) v (P // codes "required") Q))

  -- an annotation, where the value is an object and the test holds
  abbrev pub on_objects : Bool → List Name → Option (List Name)
  on_objects b ns = cond (is_object v && b) (Some ns) None

  -- ---- the keywords, each with the child that it gives, or none; k is its name and p its value

  module _ (k : Name) (p : Part Meaning) where
    abbrev pub additional_trees : Name × Data → List Tree
    additional_trees m = where_so (is_object p.whole.schema && is_among m.0 additional_names) (p.whole.answer.tree m.1 (P // k) (Q // m.0))

    abbrev pub branch_trees : (Subschema → Bool) → List Tree
    branch_trees test = map (λ b. b.1.answer.tree v (P // k // b.0) Q) (filter_once (λ b. test b.1) (branches p))

    -- those of the subschemas that a keyword asks
    abbrev pub asked_trees : Keyword → List Tree
    asked_trees w = map (λ a. a.sub.answer.tree a.value (down P a.in_schema) (down Q a.in_instance)) (applied W u S k p v w)

    abbrev pub properties_child : List Tree
    properties_child = where_so (not (restricts S))
        (result (P // k) Q (on_objects true (map (λ m. m.0) (filter_once (λ m. is_declared S m.0) (members v)))) false []
        (flat_map declared_trees (members v) ++ missing_child (fuses_two S)))

    -- pattern by pattern
    abbrev pub patterns_child : List Tree
    patterns_child = where_so (not (restricts S))
        (result (P // k) Q (on_objects true (flat_map (λ e. map (λ m. m.0) (filter_once (λ m. matches W u e.0 m.0) (members v))) p.entries)) false [] (asked_trees pattern_properties))

    -- member by member: the declared, the matching and the additional schemas
    abbrev pub additional_child : List Tree
    additional_child = where_so (restricts S)
        (result (P // k) Q (on_objects (is_object p.whole.schema && (cond (declares S) (has_patterns S) (not (has_patterns S)) || not (is_empty additional_names))) additional_names) false
        (described (own W u S k p v P Q additional_properties))
        (flat_map (λ m. declared_trees m ++ pattern_trees m ++ additional_trees m) (members v)
        ++ where_so (has_patterns S && not (declares S) && not (is_empty matched_names)) (node (P // codes "patternProperties") Q true (Some matched_names) [] no_tree)
        ++ missing_child (fuses_one S)))

    abbrev pub names_child : List Tree
    names_child =
        where_so (is_object p.whole.schema) (plain (P // k) Q (map (λ m. p.whole.answer.tree (string m.0) (P // k) Q) (members v)))
        ++ where_so (is_truth false p.whole.schema) (erring (P // k) Q (fault_if (not (is_empty (members v))) FalseSchema v (P // k) Q))

    abbrev pub required_child : List Tree
    required_child = where_so (not (fuses_one S) && not (fuses_two S)) (erring (P // k) Q (required_faults (names p) v (P // k) Q))

    -- the name lists whose key is a member
    abbrev pub due_trees : List Tree
    due_trees = map (λ e. erring (P // k) Q (required_faults e.1 v (P // k) Q)) (due p v)

    -- key by key, a name list at the keyword, or a node
    abbrev pub dependency_tree : Name × Subschema → Tree
    dependency_tree e = cond (is_array e.1.schema) (erring (P // k) Q (required_faults (texts e.1.schema) v (P // k) Q)) (e.1.answer.tree v (P // k // e.0) Q)

    -- the accepting branches; where there is none, all branches, invalid
    abbrev pub any_of_child : Tree
    any_of_child = cond (accepting p v == 0) (result (P // k) Q None true [] (branch_trees (λ s. true))) (plain (P // k) Q (branch_trees (λ s. holds s v)))

    abbrev pub one_of_child : Tree
    one_of_child = cond (accepting p v == 0)
        (result (P // k) Q None true [] (branch_trees (λ s. true)))
        (result (P // k) Q None false (where_so (nat_lt 1 (accepting p v)) (codes "oneOf", codes "more than one subschema succeeded", false)) (branch_trees (λ s. holds s v)))

    -- `if` with `then` where it accepts (shown only then), else `else`
    abbrev pub case_trees : Bool → Name → List Tree
    case_trees b n = flat_map (λ s. where_so b (s.answer.tree v (P // n) Q)) (wholes_at S n)

    abbrev pub if_child : List Tree
    if_child = where_so (is_conditional S)
        (plain (P // k) Q (where_so (holds p.whole v) (p.whole.answer.tree v (P // k) Q) ++ case_trees (holds p.whole v) (codes "then") ++ case_trees (not (holds p.whole v)) (codes "else")))

    abbrev pub keyword_child : Keyword → List Tree
    keyword_child properties = properties_child
    keyword_child pattern_properties = patterns_child
    keyword_child additional_properties = additional_child
    keyword_child property_names = names_child
    keyword_child required = required_child
    keyword_child dependent_required = plain (P // k) Q due_trees ∷ []
    keyword_child dependent_schemas = plain (P // k) Q (asked_trees dependent_schemas) ∷ []
    keyword_child dependencies = plain (P // k) Q (map dependency_tree (filter_once (λ e. has e.0 v) p.entries)) ∷ []
    keyword_child property_dependencies = plain (P // k) Q (asked_trees property_dependencies) ∷ []
    keyword_child all_of = plain (P // k) Q (asked_trees all_of) ∷ []
    keyword_child any_of = any_of_child ∷ []
    keyword_child one_of = one_of_child ∷ []
    keyword_child not_keyword = erring (P // k) Q (own W u S k p v P Q not_keyword) ∷ []
    keyword_child if_keyword = if_child
    keyword_child leaf = leaf_node (P // k) Q (described (own W u S k p v P Q leaf)) ∷ []
    keyword_child _ = []

-- in the order of the keywords
abbrev pub tree_step : World → Bool → Schema Meaning → Data → Path → Path → Tree
tree_step W u (truth b) v P Q = erring P Q (fault_if (not b) FalseSchema v P Q)
tree_step W u (no_schema d) v P Q = plain P Q []
tree_step W u (keywords S) v P Q = plain P Q (flat_map (λ m. keyword_child W u S v P Q m.0 m.1 (keyword_named W m.0)) S)
