-- Which validators are built of a schema, and where each stands.
use Rattle.std.specs.Prelude.{ℕ, Bool, true, false, cond, ◌||◌, ◌==◌, nat_lt, List, [], ◌∷◌, ◌++◌, map, length, codes, Option, option_map}
use Rattle.std.specs.List.{flat_map}
use Rattle.serde_json.specs.Data.{Data}
use Rattle.olk_spec.specs.Names.{Name, Path, ◌//◌, lookup_name}
use Rattle.olk_spec.specs.Vocabulary.{Keyword, properties, pattern_properties, additional_properties, property_names, required, dependent_required, dependent_schemas, dependencies}
use Rattle.olk_spec.specs.Vocabulary.{property_dependencies, all_of, any_of, one_of, not_keyword, if_keyword, leaf, keyword_named}
use Rattle.olk_spec.specs.Schemas.{Sub, Part, Schema, truth, keywords, no_schema, Keywords, answer_for, is_object, is_array, is_truth, branches, is_present, entries_at, wholes_at}
use Rattle.olk_spec.specs.Meanings.{restricts, is_conditional}
use Rattle.olk_spec.specs.Trees.{fuses_two, fuses_one, has_patterns, where_so}
use Rattle.olk_spec.specs.{World.World, declared.TheConstants.HASHMAP_THRESHOLD}

-- few names are held in a small map, and many in a big one
pub data Size : Type 0 where
  few many : Size

-- what stands at a place, or as the validator of a keyword
pub data Form : Type 0 where
  -- at a place: true, false, the validators of an object, a list of names
  true_form false_form object_form names_form : Form
  -- `properties` of few names, of many, and with two names of `required`; `required` by itself
  small_properties_form big_properties_form fused_properties_form required_form : Form
  -- one pattern, or none or several
  single_pattern_form patterns_form : Form
  -- `additionalProperties`: with a schema for other members or none of these allowed, over a map, over patterns, with a name of `required`
  restriction_form : Bool → Option Size → Bool → Bool → Form
  property_names_form no_names_form : Form
  dependencies_form dependent_required_form dependent_schemas_form property_dependencies_form : Form
  -- one branch, or none or several
  single_all_of_form all_of_form single_any_of_form any_of_form single_one_of_form one_of_form : Form
  not_form if_then_form if_else_form if_then_else_form leaf_form : Form

-- with its place
abbrev pub Placed : Type 0
Placed = Path × Form

abbrev pub size_for : ℕ → Size
size_for n = cond (nat_lt n HASHMAP_THRESHOLD) few many

abbrev pub form_of_size : Size → Form
form_of_size few = small_properties_form
form_of_size many = big_properties_form

-- by whether two names are fused, over so many declared names
abbrev pub properties_form : Bool → ℕ → Form
properties_form fused n = cond fused fused_properties_form (form_of_size (size_for n))

-- the single form for one, and the other for none or several
abbrev pub one_or_other : Form → Form → ℕ → Form
one_or_other single other n = cond (n == 1) single other

-- by whether `then` and `else` are there
abbrev pub if_form : Bool → Bool → Form
if_form true true = if_then_else_form
if_form true false = if_then_form
if_form false e = if_else_form

-- what a place answers: what stands there and inside, where it stands at a path
abbrev pub Standing : Type 0
Standing = Path → List Placed

-- entries below a path, in their order
abbrev pub each_standing : Path → List (Name × Sub Standing) → List Placed
each_standing L es = flat_map (λ e. e.1.answer (L // e.0)) es

module _ (S : Keywords Standing) (P : Path) (k : Name) (p : Part Standing) where
  -- ---- the keyword k with the value p, in a schema object with the keywords S at P: its validator, and what stands inside

  abbrev pub with_inside : Form → List Placed → List Placed
  with_inside w inside = (P // k, w) ∷ inside

  abbrev pub itself_standing : List Placed
  itself_standing = p.whole.answer (P // k)

  -- how many names are declared, if any are
  abbrev pub size_beside : Option Size
  size_beside = option_map (λ q. size_for (length q.entries)) (lookup_name (codes "properties") S)

  -- the schemas of `properties` and of `patternProperties`, and itself where it is one
  abbrev pub restriction_standing : List Placed
  restriction_standing = with_inside (restriction_form (is_object p.whole.schema) size_beside (has_patterns S) (fuses_one S))
      (each_standing (P // codes "properties") (entries_at S (codes "properties")) ++ each_standing (P // codes "patternProperties") (entries_at S (codes "patternProperties"))
      ++ cond (is_object p.whole.schema) itself_standing [])

  -- a list of names stands at the keyword, and a schema below it
  abbrev pub dependency_standing : Name × Sub Standing → List Placed
  dependency_standing e = cond (is_array e.1.schema) ((P // k, names_form) ∷ []) (e.1.answer (P // k // e.0))

  abbrev pub case_standing : Name → List Placed
  case_standing n = flat_map (λ s. s.answer (P // n)) (wholes_at S n)

  abbrev pub branches_standing : Form → Form → List Placed
  branches_standing single other = with_inside (one_or_other single other (length p.items)) (each_standing (P // k) (branches p))

  -- none where it is not read, or where another keyword's validator stands for it
  abbrev pub keyword_standing : Keyword → List Placed
  keyword_standing properties = cond (restricts S) [] (with_inside (properties_form (fuses_two S) (length p.entries)) (each_standing (P // k) p.entries))
  keyword_standing pattern_properties = cond (restricts S) [] (with_inside (one_or_other single_pattern_form patterns_form (length p.entries)) (each_standing (P // k) p.entries))
  keyword_standing additional_properties = cond (restricts S) restriction_standing []
  keyword_standing property_names = cond (is_object p.whole.schema) (with_inside property_names_form itself_standing) (where_so (is_truth false p.whole.schema) (P // k, no_names_form))
  keyword_standing required = cond (fuses_one S || fuses_two S) [] (with_inside required_form [])
  keyword_standing dependent_required = with_inside dependent_required_form (map (λ e. (P // k, names_form)) p.entries)
  keyword_standing dependent_schemas = with_inside dependent_schemas_form (each_standing (P // k) p.entries)
  keyword_standing dependencies = with_inside dependencies_form (flat_map dependency_standing p.entries)
  keyword_standing property_dependencies = with_inside property_dependencies_form (flat_map (λ e. each_standing (P // k // e.0) e.1) p.inner)
  keyword_standing all_of = branches_standing single_all_of_form all_of_form
  keyword_standing any_of = branches_standing single_any_of_form any_of_form
  keyword_standing one_of = branches_standing single_one_of_form one_of_form
  keyword_standing not_keyword = with_inside not_form itself_standing
  keyword_standing if_keyword = cond (is_conditional S) (with_inside (if_form (is_present S (codes "then")) (is_present S (codes "else"))) (itself_standing ++ case_standing (codes "then") ++ case_standing (codes "else"))) []
  keyword_standing leaf = with_inside leaf_form []
  keyword_standing _ = []

module _ (W : World) where
  abbrev pub standing_step : Schema Standing → Standing
  standing_step (truth true) P = (P, true_form) ∷ []
  standing_step (truth false) P = (P, false_form) ∷ []
  standing_step (no_schema d) P = []
  standing_step (keywords S) P = (P, object_form) ∷ flat_map (λ m. keyword_standing S P m.0 m.1 (keyword_named W m.0)) S

  -- what stands for a schema at a path: itself, and keyword by keyword in the order of their names each validator, before what it holds
  unfoldable pub validators : Data → Path → List Placed
  validators = answer_for standing_step
