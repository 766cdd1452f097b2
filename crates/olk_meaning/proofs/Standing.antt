-- Which validators stand for a schema, over its raw data.
use Rattle.std.proofs.Common.{◌≡◌, Bool, true, false, cond, ◌||◌, List, [], ◌∷◌, ◌++◌, map, length, codes, Option, Some, None, is_some, option_map, option_to_list, refl, sym, ◌∙◌, ap}
use Rattle.std.specs.List.{flat_map}
use Rattle.std.proofs.lemmas.List.{length-map}
use Rattle.serde_json.specs.Data.{Data, object, Members}
use Rattle.olk_spec.specs.Names.{Name, Path, ◌//◌, lookup_name}
use Rattle.olk_spec.specs.Vocabulary.{Keyword, properties, pattern_properties, additional_properties, property_names, required, dependent_required, dependent_schemas, dependencies}
use Rattle.olk_spec.specs.Vocabulary.{property_dependencies, all_of, any_of, one_of, not_keyword, if_keyword, keyword_named}
use Rattle.olk_spec.specs.Schemas.{Sub, Part, read, read_members, listed, numbered, members, is_object, is_array, is_truth, branches, is_present, entries_at, wholes_at}
use Rattle.olk_spec.specs.Trees.{fuses_two, fuses_one, where_so}
use Rattle.olk_spec.proofs.Maps.{flat_map-map, map-map}
use Rattle.olk_spec.proofs.Reading.{place, entry, inner_entry, whole_read, schema_of_read, members_read, entries_read, inner_read, items_read, branches_read, lookup_listed, lookup_read}
use Rattle.olk_spec.proofs.Reading.{wholes_at_read}
use Rattle.olk_meaning.specs.Chosen.{Placed, Form, Size, Standing, object_form, names_form, single_pattern_form, patterns_form, required_form, property_names_form, no_names_form}
use Rattle.olk_meaning.specs.Chosen.{dependencies_form, dependent_required_form, dependent_schemas_form, property_dependencies_form, single_all_of_form, all_of_form, single_any_of_form, any_of_form}
use Rattle.olk_meaning.specs.Chosen.{single_one_of_form, one_of_form, not_form, restriction_form, properties_form, one_or_other, if_form, size_for, each_standing, keyword_standing}
use Rattle.olk_meaning.specs.Chosen.{restriction_standing, standing_step}
use Rattle.olk_meaning.proofs.Layer.{layer_steps}
use Rattle.olk_meaning.proofs.Conditions.{entries_beside, present, condition_read}
use Rattle.olk_spec.specs.{World.World, Malformed.items_of_array, Meanings.restricts}
use Rattle.olk_meaning.specs.Steps.{Steps, validators}
use Rattle.olk_meaning.specs.{AdditionalProperties.entries_in, Conditions.is_condition, Members.member_standing}
use Rattle.olk_meaning.proofs.{Facts.numbered-map, Rows.Rows}

module _ {W : World} (I : Steps W) where
  -- what stands for entries below a place
  abbrev pub each_placed : Path → Rows → List Placed
  each_placed L es = flat_map (λ e. validators I e.1 (L // e.0)) es

  -- for an entry of `dependencies`, a list of names or a schema
  abbrev pub dependency_placed : Path → Name × Data → List Placed
  dependency_placed L e = cond (is_array e.1) ((L, names_form) ∷ []) (validators I e.1 (L // e.0))

  -- for a schema that is there, or none
  abbrev pub case_placed : Path → Option Data → List Placed
  case_placed L o = flat_map (λ d. validators I d L) (option_to_list o)

  abbrev pub size_declared : Option Data → Option Size
  size_declared o = option_map (λ d. size_for (length (members d))) o

  entries_placed : (L : Path) (es : Rows) → each_standing L (map (entry I.stands) es) ≡ each_placed L es
  unfolding validators
  entries_placed L [] = refl
  entries_placed L (e ∷ es) = ap (λ l. validators I e.1 (L // e.0) ++ l) (entries_placed L es)

  module _ (d : Data) where
    whole_placed : (L : Path) → (read I.stands d).whole.answer L ≡ validators I d L
    unfolding validators
    whole_placed L = ap (λ s. s.answer L) (whole_read I.stands d)

    value_read : (read I.stands d).whole.schema ≡ d
    value_read = schema_of_read I.stands d

    entries_of : (L : Path) → each_standing L (read I.stands d).entries ≡ each_placed L (members d)
    entries_of L = ap (each_standing L) (entries_read I.stands d) ∙ entries_placed L (members d)

    count_of : length (read I.stands d).entries ≡ length (members d)
    count_of = ap length (entries_read I.stands d) ∙ length-map (members d) (entry I.stands)

    branches_of : (L : Path) → each_standing L (branches (read I.stands d)) ≡ each_placed L (numbered (items_of_array d))
    branches_of L = ap (each_standing L) (branches_read I.stands d ∙ numbered-map (place I.stands) (items_of_array d)) ∙ entries_placed L (numbered (items_of_array d))

    branch_count : length (read I.stands d).items ≡ length (items_of_array d)
    branch_count = ap length (items_read I.stands d) ∙ length-map (items_of_array d) (place I.stands)

  -- ---- the members of a schema object with the members ms at P

  module _ (ms : Members) (P : Path) where
    abbrev standing : Name → Data → Keyword → List Placed
    standing k d w = member_standing I ms (k, d) w P

    abbrev neighbours : List (Name × Part Standing)
    neighbours = read_members I.stands ms

    module _ (d : Data) where
      pub properties_stand : (fused : Bool) → restricts neighbours ≡ false → fuses_two neighbours ≡ fused
          → standing (codes "properties") d properties ≡ (P // codes "properties", properties_form fused (length (members d))) ∷ each_placed (P // codes "properties") (members d)
      properties_stand fused free two =
          λ i. cond (free i) [] ((P // codes "properties", properties_form (two i) (count_of d i)) ∷ entries_of d (P // codes "properties") i)

      pub properties_stand_elsewhere : restricts neighbours ≡ true → standing (codes "properties") d properties ≡ []
      properties_stand_elsewhere taken = λ i. cond (taken i) [] ((P // codes "properties", properties_form (fuses_two neighbours) (count_of d i)) ∷ entries_of d (P // codes "properties") i)

      pub patterns_stand : restricts neighbours ≡ false
          → standing (codes "patternProperties") d pattern_properties ≡ (P // codes "patternProperties", one_or_other single_pattern_form patterns_form (length (members d))) ∷ each_placed (P // codes "patternProperties") (members d)
      patterns_stand free =
          λ i. cond (free i) [] ((P // codes "patternProperties", one_or_other single_pattern_form patterns_form (count_of d i)) ∷ entries_of d (P // codes "patternProperties") i)

      pub patterns_stand_elsewhere : restricts neighbours ≡ true → standing (codes "patternProperties") d pattern_properties ≡ []
      patterns_stand_elsewhere taken =
          λ i. cond (taken i) [] ((P // codes "patternProperties", one_or_other single_pattern_form patterns_form (count_of d i)) ∷ entries_of d (P // codes "patternProperties") i)

      pub required_stands : fuses_one neighbours ≡ false → fuses_two neighbours ≡ false → standing (codes "required") d required ≡ (P // codes "required", required_form) ∷ []
      required_stands one two = λ i. cond (one i || two i) [] ((P // codes "required", required_form) ∷ [])

      pub required_stands_elsewhere : (fuses_one neighbours || fuses_two neighbours) ≡ true → standing (codes "required") d required ≡ []
      required_stands_elsewhere taken = λ i. cond (taken i) [] ((P // codes "required", required_form) ∷ [])

      abbrev names_by : Bool → Bool → List Placed → List Placed
      names_by schema nothing inside = cond schema ((P // codes "propertyNames", property_names_form) ∷ inside) (where_so nothing (P // codes "propertyNames", no_names_form))

      names_read : standing (codes "propertyNames") d property_names ≡ names_by (is_object d) (is_truth false d) (validators I d (P // codes "propertyNames"))
      names_read = λ i. names_by (is_object (value_read d i)) (is_truth false (value_read d i)) (whole_placed d (P // codes "propertyNames") i)

      pub names_stand : is_object d ≡ true → standing (codes "propertyNames") d property_names ≡ (P // codes "propertyNames", property_names_form) ∷ validators I d (P // codes "propertyNames")
      names_stand is = names_read ∙ ap (λ b. names_by b (is_truth false d) (validators I d (P // codes "propertyNames"))) is

      pub no_names_stand : is_object d ≡ false → is_truth false d ≡ true → standing (codes "propertyNames") d property_names ≡ (P // codes "propertyNames", no_names_form) ∷ []
      no_names_stand none is = names_read ∙ (λ i. names_by (none i) (is i) (validators I d (P // codes "propertyNames")))

      pub any_names_stand : is_object d ≡ false → is_truth false d ≡ false → standing (codes "propertyNames") d property_names ≡ []
      any_names_stand none is = names_read ∙ (λ i. names_by (none i) (is i) (validators I d (P // codes "propertyNames")))

      pub dependent_required_stands : standing (codes "dependentRequired") d dependent_required ≡ (P // codes "dependentRequired", dependent_required_form)
          ∷ map (λ e. (P // codes "dependentRequired", names_form)) (members d)
      dependent_required_stands =
          ap (λ l. (P // codes "dependentRequired", dependent_required_form) ∷ l) (ap (map (λ e. (P // codes "dependentRequired", names_form))) (entries_read I.stands d)
          ∙ map-map _ _ (entry I.stands) (λ e. refl) (members d))

      pub dependent_schemas_stand : standing (codes "dependentSchemas") d dependent_schemas ≡ (P // codes "dependentSchemas", dependent_schemas_form) ∷ each_placed (P // codes "dependentSchemas") (members d)
      dependent_schemas_stand = ap (λ l. (P // codes "dependentSchemas", dependent_schemas_form) ∷ l) (entries_of d (P // codes "dependentSchemas"))

      pub dependencies_stand : standing (codes "dependencies") d dependencies ≡ (P // codes "dependencies", dependencies_form)
          ∷ flat_map (dependency_placed (P // codes "dependencies")) (members d)
      unfolding validators
      dependencies_stand = ap (λ l. (P // codes "dependencies", dependencies_form) ∷ l) (ap (flat_map _) (entries_read I.stands d)
          ∙ flat_map-map _ (dependency_placed (P // codes "dependencies")) (entry I.stands) (λ e. refl) (members d))

      pub property_dependencies_stand : standing (codes "propertyDependencies") d property_dependencies ≡ (P // codes "propertyDependencies", property_dependencies_form)
          ∷ flat_map (λ e. each_placed (P // codes "propertyDependencies" // e.0) (members e.1)) (members d)
      property_dependencies_stand =
          ap (λ l. (P // codes "propertyDependencies", property_dependencies_form) ∷ l) (ap (flat_map _) (inner_read I.stands d)
          ∙ flat_map-map _ (λ e. each_placed (P // codes "propertyDependencies" // e.0) (members e.1)) (inner_entry I.stands)
          (λ e. entries_placed (P // codes "propertyDependencies" // e.0) (members e.1)) (members d))

      branches_stand : (L : Path) (single other : Form) → (L, one_or_other single other (length (read I.stands d).items)) ∷ each_standing L (branches (read I.stands d))
          ≡ (L, one_or_other single other (length (items_of_array d))) ∷ each_placed L (numbered (items_of_array d))
      branches_stand L single other = λ i. (L, one_or_other single other (branch_count d i)) ∷ branches_of d L i

      pub all_of_stands : standing (codes "allOf") d all_of ≡ (P // codes "allOf", one_or_other single_all_of_form all_of_form (length (items_of_array d))) ∷ each_placed (P // codes "allOf") (numbered (items_of_array d))
      all_of_stands = branches_stand (P // codes "allOf") single_all_of_form all_of_form

      pub any_of_stands : standing (codes "anyOf") d any_of ≡ (P // codes "anyOf", one_or_other single_any_of_form any_of_form (length (items_of_array d))) ∷ each_placed (P // codes "anyOf") (numbered (items_of_array d))
      any_of_stands = branches_stand (P // codes "anyOf") single_any_of_form any_of_form

      pub one_of_stands : standing (codes "oneOf") d one_of ≡ (P // codes "oneOf", one_or_other single_one_of_form one_of_form (length (items_of_array d))) ∷ each_placed (P // codes "oneOf") (numbered (items_of_array d))
      one_of_stands = branches_stand (P // codes "oneOf") single_one_of_form one_of_form

      pub not_stands : standing (codes "not") d not_keyword ≡ (P // codes "not", not_form) ∷ validators I d (P // codes "not")
      not_stands = ap (λ l. (P // codes "not", not_form) ∷ l) (whole_placed d (P // codes "not"))

      abbrev case_at : Name → Sub Standing → List Placed
      case_at n s = s.answer (P // n)

      cases_read : (n : Name) → flat_map (case_at n) (wholes_at neighbours n) ≡ case_placed (P // n) (lookup_name n (listed ms))
      unfolding validators
      cases_read n = ap (flat_map (case_at n)) (wholes_at_read I.stands ms n ∙ ap (λ o. map (place I.stands) (option_to_list o)) (sym (lookup_listed n ms))) ∙ by (lookup_name n (listed ms))
        where
          by : (o : Option Data) → flat_map (case_at n) (map (place I.stands) (option_to_list o)) ≡ case_placed (P // n) o
          by None = refl
          by (Some x) = refl

      abbrev conditional : Bool → Form → List Placed → List Placed
      conditional b w inside = cond b ((P // codes "if", w) ∷ inside) []

      pub if_stands : is_condition ms ≡ true → standing (codes "if") d if_keyword ≡ (P // codes "if", if_form (is_some (lookup_name (codes "then") (listed ms))) (is_some (lookup_name (codes "else") (listed ms))))
          ∷ (validators I d (P // codes "if") ++ case_placed (P // codes "then") (lookup_name (codes "then") (listed ms)) ++ case_placed (P // codes "else") (lookup_name (codes "else") (listed ms)))
      if_stands is =
          (λ i. conditional (condition_read I.stands ms i) (if_form (present I.stands ms (codes "then") i) (present I.stands ms (codes "else") i))
          (whole_placed d (P // codes "if") i ++ cases_read (codes "then") i ++ cases_read (codes "else") i))
          ∙ ap (λ b. conditional b (if_form (is_some (lookup_name (codes "then") (listed ms))) (is_some (lookup_name (codes "else") (listed ms))))
          (validators I d (P // codes "if") ++ case_placed (P // codes "then") (lookup_name (codes "then") (listed ms)) ++ case_placed (P // codes "else") (lookup_name (codes "else") (listed ms)))) is

      pub if_stands_nowhere : is_condition ms ≡ false → standing (codes "if") d if_keyword ≡ []
      if_stands_nowhere not_read = ap (λ b. conditional b (if_form (is_present neighbours (codes "then")) (is_present neighbours (codes "else")))
          ((read I.stands d).whole.answer (P // codes "if") ++ flat_map (case_at (codes "then")) (wholes_at neighbours (codes "then")) ++ flat_map (case_at (codes "else")) (wholes_at neighbours (codes "else"))))
          (condition_read I.stands ms ∙ not_read)

      entries_there : (n : Name) → each_standing (P // n) (entries_at neighbours n) ≡ each_placed (P // n) (entries_in (lookup_name n (listed ms)))
      entries_there n = ap (each_standing (P // n)) (entries_beside I.stands ms n) ∙ entries_placed (P // n) (entries_in (lookup_name n (listed ms)))

      abbrev size_at : Part Standing → Size
      size_at q = size_for (length q.entries)

      size_there : option_map size_at (lookup_name (codes "properties") neighbours) ≡ size_declared (lookup_name (codes "properties") (listed ms))
      size_there = ap (option_map size_at) (lookup_read I.stands (codes "properties") ms ∙ ap (option_map (read I.stands)) (sym (lookup_listed (codes "properties") ms))) ∙ by (lookup_name (codes "properties") (listed ms))
        where
          by : (o : Option Data) → option_map size_at (option_map (read I.stands) o) ≡ size_declared o
          by None = refl
          by (Some x) = ap (λ n. Some (size_for n)) (count_of x)

      abbrev pub rest_placed : List Placed
      rest_placed = cond (is_object d) (validators I d (P // codes "additionalProperties")) []

      pub restriction_stands : (one : Bool) → restricts neighbours ≡ true → fuses_one neighbours ≡ one → standing (codes "additionalProperties") d additional_properties
          ≡ (P // codes "additionalProperties", restriction_form (is_object d) (size_declared (lookup_name (codes "properties") (listed ms))) (is_some (lookup_name (codes "patternProperties") (listed ms))) one)
          ∷ (each_placed (P // codes "properties") (entries_in (lookup_name (codes "properties") (listed ms))) ++ each_placed (P // codes "patternProperties") (entries_in (lookup_name (codes "patternProperties") (listed ms))) ++ rest_placed)
      restriction_stands one taken fused =
          λ i. cond (taken i) ((P // codes "additionalProperties", restriction_form (is_object (value_read d i)) (size_there i) (present I.stands ms (codes "patternProperties") i) (fused i))
          ∷ (entries_there (codes "properties") i ++ entries_there (codes "patternProperties") i ++ cond (is_object (value_read d i)) (whole_placed d (P // codes "additionalProperties") i) [])) []

      pub others_stand_nowhere : restricts neighbours ≡ false → standing (codes "additionalProperties") d additional_properties ≡ []
      others_stand_nowhere free = ap (λ b. cond b (restriction_standing neighbours P (codes "additionalProperties") (read I.stands d)) []) free

-- member by member
pub object_stands : (W : World) (ms : Members) (P : Path) → validators (layer_steps W) (object ms) P ≡ (P, object_form) ∷ flat_map (λ m. member_standing (layer_steps W) ms m (keyword_named W m.0) P) (listed ms)
unfolding validators
object_stands W ms P = ap (λ l. (P, object_form) ∷ l) (ap (flat_map (λ m. keyword_standing (read_members (standing_step W) ms) P m.0 m.1 (keyword_named W m.0))) (members_read (standing_step W) ms)
    ∙ flat_map-map _ _ _ (λ m. refl) (listed ms))
