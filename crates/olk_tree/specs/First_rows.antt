-- Which step that refuses is the first, row by row, over nodes that are told apart by their names.
use Rattle.std.specs.Prelude.{◌≡◌, Bool, true, false, cond, ◌||◌, List, [], ◌∷◌, codes, Some, None, Vec, bytes_eq, string_bytes}
use Rattle.std.specs.declared.alloc.Global.{Global}
use Rattle.serde_json.specs.Data.{Data, boolean, string, object, no_members, member}
use Rattle.olk_spec.specs.Names.{Name, Path, ◌//◌, is_empty}
use Rattle.olk_spec.specs.World.{Says, matched, unmatched}
use Rattle.olk_spec.specs.Faults.{Fault, fault, FalseSchema, Required, AdditionalProperties, AnyOf, OneOfNotValid, OneOfMultipleValid, PropertyNames, context}
use Rattle.olk_base.specs.declared.pattern.CompiledPattern.TheVariants.{Regex}
use Rattle.olk_tree.specs.Answers.{AnswersOver, Meanings, Findings, alone}
use Rattle.olk_tree.specs.AdditionalProperties.{additional_properties_answers}
use Rattle.olk_tree.specs.AllOf.{all_of_answers}
use Rattle.olk_tree.specs.AnyOf.{any_of_answers}
use Rattle.olk_tree.specs.Bodies.{body_first}
use Rattle.olk_tree.specs.Dependencies.{dependencies_answers, dependent_schemas_answers}
use Rattle.olk_tree.specs.If.{if_then_answers, if_then_else_answers}
use Rattle.olk_tree.specs.Maps.{named, mapped, texts_of}
use Rattle.olk_tree.specs.OneOf.{one_of_answers}
use Rattle.olk_tree.specs.PatternProperties.{pattern_properties_answers, single_pattern_properties_answers}
use Rattle.olk_tree.specs.Properties.{properties_answers, properties_with_required2_answers}
use Rattle.olk_tree.specs.PropertyNames.{property_names_answers, property_names_false_answers}
use Rattle.olk_tree.specs.Questions.{always}
use Rattle.olk_tree.specs.Required.{required_answers}
use Rattle.olk_tree.specs.declared.all_of.AllOf.{AllOf}
use Rattle.olk_tree.specs.declared.any_of.AnyOf.{AnyOf as AnyOfBranches}
use Rattle.olk_tree.specs.declared.dependencies.Dependencies.{Dependencies}
use Rattle.olk_tree.specs.declared.dependencies.DependentSchemas.{DependentSchemas}
use Rattle.olk_tree.specs.declared.node.Body.TheVariants.{False, Keywords}
use Rattle.olk_tree.specs.declared.one_of.OneOf.{OneOf}
use Rattle.olk_tree.specs.declared.pattern_properties.PatternProperties.{PatternProperties}
use Rattle.olk_tree.specs.declared.properties.SmallPropertiesWithRequired2.{SmallPropertiesWithRequired2}
use Rattle.olk_tree.specs.declared.properties_map.PropertiesMap.{PropertiesMap}
use Rattle.olk_tree.specs.declared.required.RequiredValidator.{RequiredValidator}

-- a node without a name accepts every value; any other finds two faults at its name, and tells the first
abbrev pub node_means : Meanings Name
node_means n v = always (is_empty n)

abbrev pub told : Name → Data → Path → List Fault
told n v Q = fault FalseSchema v Q n ∷ []

abbrev pub both_faults : Name → Data → List Fault
both_faults n v = fault FalseSchema v [] n ∷ fault (Required n) v [] n ∷ []

abbrev pub node_report : Findings Name
node_report n u v Q = cond (is_empty n) [] (fault FalseSchema v Q n ∷ fault (Required n) v Q n ∷ [])

abbrev pub node_first : Findings Name
node_first n u v Q = cond (is_empty n) [] (told n v Q)

abbrev pub fine : Name
fine = []

abbrev pub A : Name
A = codes "A"

abbrev pub B : Name
B = codes "B"

-- names of members, and a pattern that matches them all; other patterns match the name that they are
abbrev pub a : Name
a = codes "a"

abbrev pub b : Name
b = codes "b"

abbrev pub c : Name
c = codes "c"

abbrev pub d : Name
d = codes "d"

abbrev pub any : Name
any = codes "*"

abbrev pub row_matches : Name → Name → Says
row_matches p n = cond (bytes_eq p n || bytes_eq p any) matched unmatched

abbrev pub no_cost : Name → Bool
no_cost p = false

-- an object with the members a, which is true, and b, which is false; and one without any
abbrev pub two : Data
two = object (member a (boolean true) (member b (boolean false) no_members))

abbrev pub empty : Data
empty = object no_members

abbrev pub below : Name → Path
below n = [] // n

abbrev pub lacking : Name → Data → Path → List Fault
lacking n v P = fault (Required n) v [] P ∷ []

abbrev pub unexpected : Name → Path → List Fault
unexpected n P = fault (AdditionalProperties (n ∷ [])) two [] P ∷ []

-- these are the faults of the first step that refuses the value at the root
abbrev pub Tells : AnswersOver Name → Data → List Fault → Type 0
Tells w v fs = (u : Bool) → w.first node_means node_report node_first u v [] ≡ fs

pub record First_rows : Type 0 where
  -- ---- `required`: the first name of the list that is absent
  pub first_of_the_list : (k : RequiredValidator) → texts_of k.required.items ≡ b ∷ a ∷ [] → Tells (alone (required_answers k)) empty (lacking b empty k.location)
  pub next_of_the_list : (k : RequiredValidator) → texts_of k.required.items ≡ b ∷ c ∷ d ∷ [] → Tells (alone (required_answers k)) two (lacking c two k.location)
  pub none_is_absent : (k : RequiredValidator) → texts_of k.required.items ≡ b ∷ a ∷ [] → Tells (alone (required_answers k)) two []
  pub no_object_lacks_names : (k : RequiredValidator) → texts_of k.required.items ≡ b ∷ a ∷ [] → Tells (alone (required_answers k)) (string a) []
  -- ---- `properties`: declared name by declared name
  pub first_declared_name : (m : PropertiesMap Name) (P : Path) → mapped m ≡ (a, A) ∷ (b, B) ∷ [] → Tells (properties_answers m P) two (told A (boolean true) (below a))
  pub next_declared_name : (m : PropertiesMap Name) (P : Path) → mapped m ≡ (a, fine) ∷ (b, B) ∷ [] → Tells (properties_answers m P) two (told B (boolean false) (below b))
  pub absent_names_are_passed : (m : PropertiesMap Name) (P : Path) → mapped m ≡ (c, A) ∷ (d, B) ∷ [] → Tells (properties_answers m P) two []
  -- ---- with two names of `required`: the first that is missing, the second, and then the members
  pub first_missing_of_two : (k : SmallPropertiesWithRequired2 Name) → string_bytes k.first ≡ c → string_bytes k.second ≡ d → named k.properties ≡ (a, A) ∷ [] → Tells (properties_with_required2_answers k) two (lacking c two k.required_location)
  pub second_missing_of_two : (k : SmallPropertiesWithRequired2 Name) → string_bytes k.first ≡ a → string_bytes k.second ≡ d → named k.properties ≡ (a, A) ∷ [] → Tells (properties_with_required2_answers k) two (lacking d two k.required_location)
  pub members_behind_two_names : (k : SmallPropertiesWithRequired2 Name) → string_bytes k.first ≡ a → string_bytes k.second ≡ b → named k.properties ≡ (a, A) ∷ (b, B) ∷ [] → Tells (properties_with_required2_answers k) two (told A (boolean true) (below a))
  -- ---- `patternProperties`: member by member, and pattern by pattern of one member
  pub member_before_pattern : (k : PatternProperties Name Name) → k.patterns.items ≡ (Regex b, A) ∷ (Regex any, B) ∷ [] → Tells (pattern_properties_answers row_matches no_cost k) two (told B (boolean true) (below a))
  pub pattern_before_pattern : (k : PatternProperties Name Name) → k.patterns.items ≡ (Regex any, A) ∷ (Regex a, B) ∷ [] → Tells (pattern_properties_answers row_matches no_cost k) two (told A (boolean true) (below a))
  pub next_pattern : (k : PatternProperties Name Name) → k.patterns.items ≡ (Regex any, fine) ∷ (Regex a, B) ∷ [] → Tells (pattern_properties_answers row_matches no_cost k) two (told B (boolean true) (below a))
  pub single_pattern : (P : Path) → Tells (single_pattern_properties_answers row_matches no_cost (record { regex = Regex b; node = A; location = P })) two (told A (boolean false) (below b))
  -- ---- `additionalProperties`: member by member; of one member what is declared, its patterns, and then the rest; the missing name last
  pub additional_in_order : (L M : Path) → Tells (additional_properties_answers row_matches no_cost (record { properties = None; patterns = None; table = None; rest = Some A; required = None; location = L; patterns_location = [] })) two (told A (boolean true) (below a))
  pub any_member_is_too_many : (L M : Path) → Tells (additional_properties_answers row_matches no_cost (record { properties = None; patterns = None; table = None; rest = None; required = None; location = L; patterns_location = [] })) two (fault FalseSchema (boolean true) [] L ∷ [])
  pub unexpected_before_a_later_member : (L M : Path) (m : PropertiesMap Name) → mapped m ≡ (b, B) ∷ [] → Tells (additional_properties_answers row_matches no_cost (record { properties = Some m; patterns = None; table = None; rest = None; required = None; location = L; patterns_location = [] })) two (unexpected a L)
  pub member_before_a_later_unexpected : (L M : Path) (m : PropertiesMap Name) → mapped m ≡ (a, A) ∷ [] → Tells (additional_properties_answers row_matches no_cost (record { properties = Some m; patterns = None; table = None; rest = None; required = None; location = L; patterns_location = [] })) two (told A (boolean true) (below a))
  pub unexpected_behind_an_accepted_member : (L M : Path) (m : PropertiesMap Name) → mapped m ≡ (a, fine) ∷ [] → Tells (additional_properties_answers row_matches no_cost (record { properties = Some m; patterns = None; table = None; rest = None; required = None; location = L; patterns_location = [] })) two (unexpected b L)
  pub unexpected_before_a_missing_name : (L M : Path) (m : PropertiesMap Name) → mapped m ≡ (a, fine) ∷ [] → Tells (additional_properties_answers row_matches no_cost (record { properties = Some m; patterns = None; table = None; rest = None; required = Some (c, M); location = L; patterns_location = [] })) two (unexpected b L)
  pub member_before_a_missing_name : (L M : Path) (m : PropertiesMap Name) → mapped m ≡ (a, fine) ∷ (b, B) ∷ [] → Tells (additional_properties_answers row_matches no_cost (record { properties = Some m; patterns = None; table = None; rest = None; required = Some (c, M); location = L; patterns_location = [] })) two (told B (boolean false) (below b))
  pub missing_name_is_last : (L M : Path) (m : PropertiesMap Name) → mapped m ≡ (a, fine) ∷ (b, fine) ∷ [] → Tells (additional_properties_answers row_matches no_cost (record { properties = Some m; patterns = None; table = None; rest = None; required = Some (c, M); location = L; patterns_location = [] })) two (lacking c two M)
  pub rest_before_a_later_match : (L M : Path) → Tells (additional_properties_answers row_matches no_cost (record { properties = None; patterns = Some ((Regex b, A) ∷ []); table = None; rest = Some B; required = None; location = L; patterns_location = [] })) two (told B (boolean true) (below a))
  pub patterns_of_one_member : (L M : Path) → Tells (additional_properties_answers row_matches no_cost (record { properties = None; patterns = Some ((Regex a, fine) ∷ (Regex any, A) ∷ []); table = None; rest = None; required = None; location = L; patterns_location = [] })) two (told A (boolean true) (below a))
  pub unexpected_before_a_later_match : (L M : Path) → Tells (additional_properties_answers row_matches no_cost (record { properties = None; patterns = Some ((Regex b, A) ∷ []); table = None; rest = None; required = None; location = L; patterns_location = [] })) two (unexpected a L)
  pub declared_before_its_pattern : (L M : Path) (m : PropertiesMap Name) → mapped m ≡ (a, A) ∷ [] → Tells (additional_properties_answers row_matches no_cost (record { properties = Some m; patterns = Some ((Regex a, B) ∷ []); table = None; rest = None; required = None; location = L; patterns_location = [] })) two (told A (boolean true) (below a))
  pub pattern_behind_declared : (L M : Path) (m : PropertiesMap Name) → mapped m ≡ (a, fine) ∷ [] → Tells (additional_properties_answers row_matches no_cost (record { properties = Some m; patterns = Some ((Regex a, B) ∷ []); table = None; rest = None; required = None; location = L; patterns_location = [] })) two (told B (boolean true) (below a))
  -- ---- the others: name by name, key by key, branch by branch, keyword by keyword
  pub first_refused_name : (P : Path) → Tells (property_names_answers (record { node = A; location = P })) two (fault (PropertyNames (fault FalseSchema (string a) [] A)) two [] A ∷ [])
  pub no_name_is_allowed : (P : Path) → Tells (alone (property_names_false_answers (record { location = P }))) two (fault FalseSchema two [] P ∷ [])
  pub first_refusing_key : (k : Dependencies Name) → named k.dependencies ≡ (a, fine) ∷ (b, B) ∷ (c, A) ∷ [] → Tells (dependencies_answers k) two (told B two [])
  pub absent_keys_are_passed : (k : DependentSchemas Name) → named k.dependencies ≡ (c, A) ∷ (d, A) ∷ [] → Tells (dependent_schemas_answers k) two []
  pub first_refusing_branch : (k : AllOf Name) → k.schemas.items ≡ fine ∷ B ∷ A ∷ [] → Tells (all_of_answers k) two (told B two [])
  pub no_branch_accepts : (k : AnyOfBranches Name) → k.schemas.items ≡ A ∷ B ∷ [] → Tells (any_of_answers k) two (fault (AnyOf (context (both_faults A two ∷ both_faults B two ∷ []))) two [] k.location ∷ [])
  pub no_branch_of_one_of_accepts : (k : OneOf Name) → k.schemas.items ≡ A ∷ B ∷ [] → Tells (one_of_answers k) two (fault (OneOfNotValid (context (both_faults A two ∷ both_faults B two ∷ []))) two [] k.location ∷ [])
  pub several_branches_of_one_of_accept : (k : OneOf Name) → k.schemas.items ≡ fine ∷ A ∷ fine ∷ [] → Tells (one_of_answers k) two (fault (OneOfMultipleValid (context ([] ∷ both_faults A two ∷ [] ∷ []))) two [] k.location ∷ [])
  pub then_where_if_accepts : (P : Path) → Tells (if_then_else_answers (record { schema = fine; then_schema = A; else_schema = B; location = P })) two (told A two [])
  pub else_where_if_refuses : (P : Path) → Tells (if_then_else_answers (record { schema = A; then_schema = A; else_schema = B; location = P })) two (told B two [])
  pub if_tells_nothing : (P : Path) → Tells (if_then_answers (record { schema = A; then_schema = B; location = P })) two []
  pub first_refusing_keyword : (ks : Vec Name Global) (P : Path) (u : Bool) → ks.items ≡ fine ∷ B ∷ A ∷ [] → body_first (λ n. node_first n u) P (Keywords ks) two [] ≡ told B two []
  pub false_at_its_place : (P : Path) (u : Bool) → body_first (λ n. node_first n u) P False two [] ≡ told P two []
