-- What a member of a schema object is as a keyword, apart from the nodes inside it: lists of names, patterns, shapes.
use Rattle.std.specs.Prelude.{List, Option, Some, None, Vec, String, cond, map, option_map, string_bytes, ◌≡◌, ⊤, true, false, [], ◌∷◌, codes}
use Rattle.serde_json.specs.Data.{Data, Items, array}
use Rattle.olk_spec.specs.Names.{Name, Path, ◌//◌, Text, is_among}
use Rattle.olk_spec.specs.Faults.{Fault}
use Rattle.olk_spec.specs.Schemas.{is_array, members, texts, read, is_object, is_truth}
use Rattle.olk_spec.specs.Malformed.{not_a_text, unless_object, name_list_refusals, own_refusals, malformations_step}
use Rattle.std.specs.{List.flat_map, declared.alloc.Global.Global}
use Rattle.std.specs.List.{AllZip}
use Rattle.olk_spec.specs.Meanings.{pattern_says, is_open}
use Rattle.olk_spec.specs.Costs.{Cost, total_cost, no_cost}
use Rattle.olk_base.specs.Compiled.{pattern_answers, pattern_costs}
use Rattle.olk_reports.specs.declared.error.BuildError.{BuildError}
use Rattle.olk_meaning.specs.PatternProperties.{pattern_faults, matcher_made}
use Rattle.olk_build.specs.Refusing.{Refuses, ArePaid, Spends}
use Rattle.olk_base.specs.{Count.Counts, Kit.Kit, declared.pattern.CompiledPattern.CompiledPattern}
use Rattle.olk_spec.specs.Vocabulary.{Keyword, pattern_properties, leaf, unread, unsupported_names, keyword_named}
use Rattle.olk_meaning.specs.Conditions.{is_conditional_name, Known}
use Rattle.olk_build.specs.declared.shape.ReadPlaces.TheVariants.{Nothing, Itself, Entries, SchemaEntries, InnerEntries, Branches}
use Rattle.serde_json.specs.View.{view}
use Rattle.olk_spec.specs.World.{World}
use Rattle.olk_meaning.specs.{Dependencies.are_lists, PatternProperties.matchers_made}
use Rattle.olk_build.specs.{declared.reading.KeywordFor.KeywordFor, declared.shape.Shape.Shape}
use Rattle.olk_build.specs.declared.shape.ReadPlaces.{ReadPlaces}
use Rattle.olk_build.specs.declared.reading.KeywordFor.TheVariants as for
use Rattle.olk_build.specs.declared.shape.Shape.TheVariants as shape

-- the first item that is no text, none or one
abbrev pub not_texts : Path → Items → List Fault
not_texts P ds = not_a_text (array ds) P

-- the names that an entry of `dependencies` lists, none where it is a schema
abbrev pub list_of : Data → Option (List Name)
list_of d = cond (is_array d) (Some (texts d)) None

abbrev pub names_in : Vec (String Global) Global → List Name
names_in v = map string_bytes v.items

abbrev pub names_in_list : Option (Vec (String Global) Global) → Option (List Name)
names_in_list l = option_map names_in l

-- what is wrong with the entries of `dependentRequired`, at the keyword's place P
abbrev pub name_list_faults : Path → List (Name × Data) → List Fault
name_list_faults P es = flat_map (λ e. name_list_refusals e.0 e.1 P) es

-- what is wrong with the lists of the entries of `dependencies`, at the keyword's place P
abbrev pub list_faults : Path → List (Name × Data) → List Fault
list_faults P es = flat_map (λ e. not_a_text e.1 P) es

-- the names of an entry's own entries
abbrev pub names_of : Data → List Name
names_of d = map (λ m. m.0) (members d)

-- entries that are no objects, below the keyword's place P
abbrev pub no_object_faults : Path → List (Name × Data) → List Fault
no_object_faults P es = flat_map (λ e. unless_object e.1 (P // e.0)) es

-- What the patterns of `patternProperties` are read as.
module _ {K R : Type 0} (o : Kit K R) where
  -- it says of each name what the text says as a pattern, and asking it is counted where the matcher is asked
  pub record IsPattern (p : CompiledPattern R) (t : Text) : Type 0 where
    pub answers : (n : Name) → pattern_answers o.answers p n ≡ pattern_says o.world t n
    pub costs : pattern_costs o.costs p ≡ is_open o.world t

  -- each for the name of the entry at its place
  abbrev pub ArePatterns : List (CompiledPattern R) → List (Name × Data) → Type 0
  ArePatterns ps es = AllZip (λ p e. IsPattern p e.0) ps es

  -- what is wrong with the patterns of entries, at the keyword's place L, and what they cost
  abbrev pub patterns_wrong : Path → List (Name × Data) → List Fault
  patterns_wrong L es = flat_map (λ e. pattern_faults o.world L e.0) es

  abbrev pub patterns_cost : List (Name × Data) → Cost
  patterns_cost es = total_cost (λ e. matcher_made o.world e.0) es

  abbrev pub PatternsAreRead : List (CompiledPattern R) → List (Name × Data) → Path → Counts → Counts → Type 0
  PatternsAreRead ps es L old new = ArePaid (λ e. pattern_faults o.world L e.0) (λ e. matcher_made o.world e.0) ArePatterns ps es old new

  abbrev pub RefusesPatterns : List (Name × Data) → Path → Counts → Counts → BuildError → Type 0
  RefusesPatterns es L old new e = Refuses (patterns_wrong L es) (patterns_cost es) old new e

-- What a member of a schema object is as a keyword, apart from the nodes inside it.
-- which places are read
abbrev pub reads_of : {K R : Type 0} → Shape K R → ReadPlaces
reads_of (shape.Properties n) = Entries
reads_of (shape.PatternProperties v) = Entries
reads_of shape.AdditionalProperties = Itself
reads_of shape.PropertyNames = Itself
reads_of (shape.DependentSchemas n) = Entries
reads_of (shape.Dependencies n v) = SchemaEntries
reads_of (shape.PropertyDependencies n v) = InnerEntries
reads_of shape.AllOf = Branches
reads_of shape.AnyOf = Branches
reads_of shape.OneOf = Branches
reads_of (shape.Not v) = Itself
reads_of shape.If = Itself
reads_of shape.Then = Itself
reads_of shape.Else = Itself
reads_of x = Nothing

-- none of the keywords that are read here by name
abbrev pub IsOther : Name → Type 0
IsOther n = is_among n (codes "properties" ∷ codes "patternProperties" ∷ codes "additionalProperties" ∷ codes "propertyNames" ∷ codes "required" ∷ codes "dependentRequired" ∷ codes "dependentSchemas" ∷ codes "dependencies" ∷ codes "propertyDependencies" ∷ codes "allOf" ∷ codes "anyOf" ∷ codes "oneOf" ∷ codes "not" ∷ codes "if" ∷ codes "then" ∷ codes "else" ∷ []) ≡ false

-- which keyword a name is
abbrev pub IsFor : Name → KeywordFor → Type 0
IsFor n for.Properties = n ≡ codes "properties"
IsFor n for.PatternProperties = n ≡ codes "patternProperties"
IsFor n for.AdditionalProperties = n ≡ codes "additionalProperties"
IsFor n for.PropertyNames = n ≡ codes "propertyNames"
IsFor n for.Required = n ≡ codes "required"
IsFor n for.DependentRequired = n ≡ codes "dependentRequired"
IsFor n for.DependentSchemas = n ≡ codes "dependentSchemas"
IsFor n for.Dependencies = n ≡ codes "dependencies"
IsFor n for.PropertyDependencies = n ≡ codes "propertyDependencies"
IsFor n for.AllOf = n ≡ codes "allOf"
IsFor n for.AnyOf = n ≡ codes "anyOf"
IsFor n for.OneOf = n ≡ codes "oneOf"
IsFor n for.Not = n ≡ codes "not"
IsFor n for.If = n ≡ codes "if"
IsFor n for.Then = n ≡ codes "then"
IsFor n for.Else = n ≡ codes "else"
IsFor n for.Refused = IsOther n × (is_among n unsupported_names ≡ true)
IsFor n for.Other = IsOther n × (is_among n unsupported_names ≡ false)

-- what is wrong with a keyword itself, at its place L
abbrev pub own_faults : World → Name → Data → Path → List Fault
own_faults W k d L = own_refusals W k (read (malformations_step W) d) L (keyword_named W k)

-- what is counted for a keyword itself while its value is read
abbrev pub own_cost_of : World → Data → Keyword → Cost
own_cost_of W d leaf = record no_cost { leaf_places = 1 }
own_cost_of W d pattern_properties = matchers_made W d
own_cost_of W d w = no_cost

module _ {K R : Type 0} (o : Kit K R) where
  -- it is read as it is to be where c is known of its neighbours
  abbrev pub Fits : Known → Shape K R → Type 0
  Fits c shape.If = c.condition ≡ true
  Fits c shape.Then = c.condition ≡ true
  Fits c shape.Else = c.condition ≡ true
  Fits c shape.Unpaired = c.condition ≡ false
  Fits c x = ⊤

  -- the shape of the keyword of the name k and the value d
  abbrev pub IsShape : Name → Data → Shape K R → Type 0
  IsShape k d (shape.Properties n) = (k ≡ codes "properties") × (is_object d ≡ true) × (n ≡ map (λ e. e.0) (members d))
  IsShape k d (shape.PatternProperties v) = (k ≡ codes "patternProperties") × (is_object d ≡ true) × ArePatterns o v.items (members d)
  IsShape k d shape.AdditionalProperties = (k ≡ codes "additionalProperties") × (is_object d ≡ true)
  IsShape k d shape.NoOthers = (k ≡ codes "additionalProperties") × (is_truth false d ≡ true)
  IsShape k d shape.AnyOthers = (k ≡ codes "additionalProperties") × (is_truth true d ≡ true)
  IsShape k d shape.PropertyNames = (k ≡ codes "propertyNames") × (is_object d ≡ true)
  IsShape k d shape.NoNames = (k ≡ codes "propertyNames") × (is_truth false d ≡ true)
  IsShape k d shape.AnyNames = (k ≡ codes "propertyNames") × (is_object d ≡ false) × (is_truth false d ≡ false)
  IsShape k d (shape.Required v) = (k ≡ codes "required") × (is_array d ≡ true) × (map string_bytes v.items ≡ texts d)
  IsShape k d (shape.DependentRequired n v) = (k ≡ codes "dependentRequired") × (is_object d ≡ true) × (n ≡ map (λ e. e.0) (members d)) × (are_lists d ≡ true) × (map names_in v.items ≡ map (λ e. texts e.1) (members d))
  IsShape k d (shape.DependentSchemas n) = (k ≡ codes "dependentSchemas") × (is_object d ≡ true) × (n ≡ map (λ e. e.0) (members d))
  IsShape k d (shape.Dependencies n v) = (k ≡ codes "dependencies") × (is_object d ≡ true) × (n ≡ map (λ e. e.0) (members d)) × (map names_in_list v.items ≡ map (λ e. list_of e.1) (members d))
  IsShape k d (shape.PropertyDependencies n v) = (k ≡ codes "propertyDependencies") × (is_object d ≡ true) × (n ≡ map (λ e. e.0) (members d)) × (v.items ≡ map (λ e. names_of e.1) (members d))
  IsShape k d shape.AllOf = (k ≡ codes "allOf") × (is_array d ≡ true)
  IsShape k d shape.AnyOf = (k ≡ codes "anyOf") × (is_array d ≡ true)
  IsShape k d shape.OneOf = (k ≡ codes "oneOf") × (is_array d ≡ true)
  IsShape k d (shape.Not v) = (k ≡ codes "not") × (view v ≡ d)
  IsShape k d shape.If = k ≡ codes "if"
  IsShape k d shape.Then = k ≡ codes "then"
  IsShape k d shape.Else = k ≡ codes "else"
  IsShape k d shape.Unpaired = is_conditional_name k ≡ true
  IsShape k d (shape.Leaf l) = (keyword_named o.world k ≡ leaf) × (o.keyword_of l ≡ k) × ((v : Data) → o.finds l v ≡ o.world.faults k d v)
  IsShape k d shape.Unread = keyword_named o.world k ≡ unread

  -- a keyword's value is read, where c is known of its neighbours
  pub record IsRead (x : Shape K R) (c : Known) (k : Name) (d : Data) (L : Path) (old new : Counts) : Type 0 where
    pub shape : IsShape k d x
    pub fits : Fits c x
    pub clean : own_faults o.world k d L ≡ []
    pub spends : Spends old new (own_cost_of o.world d (keyword_named o.world k))

  -- or what is wrong with the keyword itself
  abbrev pub RefusesKeyword : Name → Data → Path → Counts → Counts → BuildError → Type 0
  RefusesKeyword k d L old new e = Refuses (own_faults o.world k d L) (own_cost_of o.world d (keyword_named o.world k)) old new e
