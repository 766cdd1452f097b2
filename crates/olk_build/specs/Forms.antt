-- Which form of a validator is built.
use Rattle.std.specs.Prelude.{◌≡◌, ◌≢◌, ◌<◌, ◌≤◌, ⊤, ℕ, Bool, true, false, List, [], ◌∷◌, map, length, take, drop, Option, Some, None, is_some, option_map, codes, Vec, String, string_bytes}
use Rattle.olk_spec.specs.Names.{Name, Path, ◌//◌}
use Rattle.olk_tree.specs.Maps.{keys_in, nodes_in, named}
use Rattle.olk_tree.specs.declared.properties_map.PropertiesMap.TheVariants.{Small, Big}
use Rattle.std.specs.{declared.alloc.Global.Global, declared.boxed.Box.Box, List.AllZip}
use Rattle.serde_json.specs.{Data.Data, View.view}
use Rattle.olk_spec.specs.{Schemas.texts, Malformed.items_of_array, declared.TheConstants.HASHMAP_THRESHOLD}
use Rattle.olk_base.specs.{Kit.Kit, declared.pattern.CompiledPattern.CompiledPattern}
use Rattle.olk_tree.specs.{Ascending.Ascend, declared.map.SmallMap.SmallMap, declared.properties_map.PropertiesMap.PropertiesMap}
use Rattle.olk_tree.specs.{declared.additional_properties.Restriction.Restriction, declared.node.KeywordOver.KeywordOver}
use Rattle.olk_tree.specs.{declared.node.Body.TheVariants.RequiredNames, declared.required.RequiredValidator.RequiredValidator, Answers.Answers, Places.AnswersBy}
use Rattle.olk_build.specs.{declared.part.Patterns.Patterns, declared.part.Beside.Beside, declared.part.DeclaredNodes.DeclaredNodes}
use Rattle.olk_tree.specs.declared.additional_properties.Restriction.TheVariants as by
use Rattle.olk_tree.specs.declared.node.KeywordOver.TheVariants as keyword

-- ---- the form over given nodes, at its place

-- the single form of one branch, and the other one of none or several
abbrev pub IsFormOfAllOf : {K R N : Type 0} → Path → List N → KeywordOver K R N → Type 0
IsFormOfAllOf P ns (keyword.AllOf k) = (k.schemas.items ≡ ns) × (length ns ≢ 1) × (k.location ≡ P)
IsFormOfAllOf P ns (keyword.SingleValueAllOf k) = (ns ≡ k.node ∷ []) × (k.location ≡ P)
IsFormOfAllOf P ns k = ⊥

abbrev pub IsFormOfAnyOf : {K R N : Type 0} → Path → List N → KeywordOver K R N → Type 0
IsFormOfAnyOf P ns (keyword.AnyOf k) = (k.schemas.items ≡ ns) × (length ns ≢ 1) × (k.location ≡ P)
IsFormOfAnyOf P ns (keyword.SingleAnyOf k) = (ns ≡ k.node ∷ []) × (k.location ≡ P)
IsFormOfAnyOf P ns k = ⊥

abbrev pub IsFormOfOneOf : {K R N : Type 0} → Path → List N → KeywordOver K R N → Type 0
IsFormOfOneOf P ns (keyword.OneOf k) = (k.schemas.items ≡ ns) × (length ns ≢ 1) × (k.location ≡ P)
IsFormOfOneOf P ns (keyword.SingleOneOf k) = (ns ≡ k.node ∷ []) × (k.location ≡ P)
IsFormOfOneOf P ns k = ⊥

-- patterns, each with its node
abbrev pub IsFormOfPatternProperties : {K R N : Type 0} → Path → List (CompiledPattern R × N) → KeywordOver K R N → Type 0
IsFormOfPatternProperties P es (keyword.PatternProperties k) = (k.patterns.items ≡ es) × (length es ≢ 1) × (k.location ≡ P)
IsFormOfPatternProperties P es (keyword.SingleValuePatternProperties k) = (es ≡ (k.value.regex, k.value.node) ∷ []) × (k.value.location ≡ P)
IsFormOfPatternProperties P es k = ⊥

-- a map of these names, and beside them these nodes
abbrev pub HasEntries : {N : Type 0} → List Name → List N → SmallMap N → Type 0
HasEntries names ns m = (m.names ≡ names) × (m.nodes.items ≡ ns)

-- the same of few names or of many
abbrev pub IsMapOver : {N : Type 0} → List Name → List N → PropertiesMap N → Type 0
IsMapOver names ns (Small m) = HasEntries names ns m
IsMapOver names ns (Big m) = (m.names ≡ names) × (m.nodes.items ≡ ns)

-- a map for so many names: from HASHMAP_THRESHOLD names on they are held in a big map
abbrev pub IsMapFor : {N : Type 0} → ℕ → PropertiesMap N → Type 0
IsMapFor n (Small m) = n < HASHMAP_THRESHOLD
IsMapFor n (Big m) = HASHMAP_THRESHOLD ≤ n

-- the form at L in the object at P, over these names and nodes: with two fused names, or alone
abbrev pub IsFormOfProperties : {K R N : Type 0} → Path → Path → List Name → List N → Option (Name × Name) → KeywordOver K R N → Type 0
IsFormOfProperties P L names ns None (keyword.SmallProperties k) = IsMapOver names ns (Small k.properties) × IsMapFor (length names) (Small k.properties) × (k.location ≡ L)
IsFormOfProperties P L names ns None (keyword.BigProperties k) = IsMapOver names ns (Big k.properties) × IsMapFor (length names) (Big k.properties) × (k.location ≡ L)
IsFormOfProperties P L names ns (Some t) (keyword.PropertiesWithRequired2 k) = HasEntries names ns k.value.properties × (k.value.location ≡ L) × (string_bytes k.value.first ≡ t.0) × (string_bytes k.value.second ≡ t.1) × (k.value.required_location ≡ P // codes "required")
IsFormOfProperties P L names ns t k = ⊥

-- a map of these names, which ascend, and nodes, or none
abbrev pub IsMapOf : {N : Type 0} → Option (DeclaredNodes N) → Option (PropertiesMap N) → Type 0
IsMapOf None None = ⊤
IsMapOf None (Some m) = ⊥
IsMapOf (Some d) None = ⊥
IsMapOf (Some d) (Some m) = IsMapOver d.names d.nodes.items m × IsMapFor (length d.names) m × Ascend d.names

-- which validator of `additionalProperties` stands at L in the object at P, and what it holds: by whether there are a node for the rest, a map beside it and patterns beside it; a name is fused where the map alone stands beside it and nothing else is expected
abbrev pub IsRestriction : {R N : Type 0} → Path → Path → Option N → Option (PropertiesMap N) → Option (Patterns R N) → Option Name → Restriction R N → Type 0
IsRestriction P L (Some r) None None n (by.Schema k) = (k.value.node ≡ r) × (k.value.location ≡ L)
IsRestriction P L None None None n (by.False k) = k.location ≡ L
IsRestriction P L (Some r) (Some m) None n (by.NotEmpty k) = (k.value.properties ≡ m) × (k.value.node ≡ r) × (k.value.location ≡ L)
IsRestriction P L None (Some m) None None (by.NotEmptyFalse k) = (k.value.properties ≡ m) × (k.value.location ≡ L)
IsRestriction P L None (Some m) None (Some n) (by.NotEmptyFalseWithRequired1 k) = (k.value.properties ≡ m) × (string_bytes k.value.required ≡ n) × (k.value.location ≡ L) × (k.value.required_location ≡ P // codes "required")
IsRestriction P L (Some r) None (Some x) n (by.WithPatterns k) = (k.value.patterns ≡ x.patterns) × (k.value.node ≡ r) × (k.value.location ≡ L) × (k.value.pattern_keyword_path ≡ x.location)
IsRestriction P L None None (Some x) n (by.WithPatternsFalse k) = (k.value.patterns ≡ x.patterns) × (k.value.location ≡ L) × (k.value.pattern_keyword_path ≡ x.location)
IsRestriction P L (Some r) (Some m) (Some x) n (by.WithPatternsNotEmpty k) = (k.value.properties ≡ m) × (k.value.patterns ≡ x.patterns) × (k.value.property_pattern_indices ≡ x.table) × (k.value.node ≡ r) × (k.value.location ≡ L)
IsRestriction P L None (Some m) (Some x) n (by.WithPatternsNotEmptyFalse k) = (k.value.properties ≡ m) × (k.value.patterns ≡ x.patterns) × (k.value.property_pattern_indices ≡ x.table) × (k.value.location ≡ L)
IsRestriction P L r m x n k = ⊥

-- the validator at L in the object at P, over the node for the rest, what stands beside it and the name that it fuses
abbrev pub IsFormOfAdditionalProperties : {R N : Type 0} → Path → Path → Option N → Beside R N → Option Name → Restriction R N → Type 0
IsFormOfAdditionalProperties {R} {N} P L rest b n k = (m : Option (PropertiesMap N)) × IsMapOf b.properties m × IsRestriction P L rest m b.patterns n k

-- `if` over its node, and those of `then` and `else` that there are
abbrev pub IsFormOfIf : {K R N : Type 0} → Path → N → Option N → Option N → KeywordOver K R N → Type 0
IsFormOfIf L n (Some t) None (keyword.IfThen k) = (k.value.schema ≡ n) × (k.value.then_schema ≡ t) × (k.value.location ≡ L)
IsFormOfIf L n None (Some e) (keyword.IfElse k) = (k.value.schema ≡ n) × (k.value.else_schema ≡ e) × (k.value.location ≡ L)
IsFormOfIf L n (Some t) (Some e) (keyword.IfThenElse k) = (k.value.schema ≡ n) × (k.value.then_schema ≡ t) × (k.value.else_schema ≡ e) × (k.value.location ≡ L)
IsFormOfIf L n t e k = ⊥

-- `required` over these names
abbrev pub IsRequiredOver : {K R N : Type 0} → Vec (String Global) Global → Path → KeywordOver K R N → Type 0
IsRequiredOver v L k = k ≡ keyword.Required (record { required = v; location = L })

-- ---- nodes of lists of names, and nodes that are cut into maps

module _ {K R N : Type 0} (o : Kit K R) (answers : N → Answers) (L : Path) where
  -- a node at L that answers as this list of names
  pub record IsListAt (v : Vec (String Global) Global) (n : N) : Type 0 where
    pub boxed : Box RequiredValidator Global
    pub holds : (boxed.value.required ≡ v) × (boxed.value.location ≡ L)
    pub answers_by : AnswersBy o answers L (RequiredNames boxed) n

  -- for each list its node
  abbrev pub AreListsAt : List (Vec (String Global) Global) → List N → Type 0
  AreListsAt = AllZip IsListAt

  -- key by key, the node of its list, and where it has none the next of the schemas' nodes
  abbrev pub AreInOrder : List (Option (Vec (String Global) Global)) → List N → List N → Type 0
  AreInOrder [] schemas ns = ns ≡ []
  AreInOrder (Some v ∷ vs) schemas [] = ⊥
  AreInOrder (Some v ∷ vs) schemas (n ∷ ns) = IsListAt v n × AreInOrder vs schemas ns
  AreInOrder (None ∷ vs) [] ns = AreInOrder vs [] ns
  AreInOrder (None ∷ vs) (s ∷ schemas) [] = ⊥
  AreInOrder (None ∷ vs) (s ∷ schemas) (n ∷ ns) = (n ≡ s) × AreInOrder vs schemas ns

-- a map for each of these lists of names, with as many nodes as it has names, in their order
abbrev pub AreCut : {N : Type 0} → List (List Name) → List N → List (SmallMap N) → Type 0
AreCut [] ns [] = ⊤
AreCut [] ns (m ∷ maps) = ⊥
AreCut (t ∷ ts) ns [] = ⊥
AreCut (t ∷ ts) ns (m ∷ maps) = HasEntries t (take (length t) ns) m × AreCut ts (drop (length t) ns) maps

-- ---- the form for a value, at its place L

-- `allOf` of one branch is the single form, and of none or several the other
abbrev pub IsAllOf : {K R N : Type 0} → Path → Data → KeywordOver K R N → Type 0
IsAllOf L d (keyword.AllOf k) = (length (items_of_array d) ≢ 1) × (k.location ≡ L)
IsAllOf L d (keyword.SingleValueAllOf k) = (length (items_of_array d) ≡ 1) × (k.location ≡ L)
IsAllOf L d k = ⊥

-- and so `anyOf` and `oneOf`
abbrev pub IsAnyOf : {K R N : Type 0} → Path → Data → KeywordOver K R N → Type 0
IsAnyOf L d (keyword.AnyOf k) = (length (items_of_array d) ≢ 1) × (k.location ≡ L)
IsAnyOf L d (keyword.SingleAnyOf k) = (length (items_of_array d) ≡ 1) × (k.location ≡ L)
IsAnyOf L d k = ⊥

abbrev pub IsOneOf : {K R N : Type 0} → Path → Data → KeywordOver K R N → Type 0
IsOneOf L d (keyword.OneOf k) = (length (items_of_array d) ≢ 1) × (k.location ≡ L)
IsOneOf L d (keyword.SingleOneOf k) = (length (items_of_array d) ≡ 1) × (k.location ≡ L)
IsOneOf L d k = ⊥

abbrev pub IsNot : {K R N : Type 0} → Path → Data → KeywordOver K R N → Type 0
IsNot L d (keyword.Not k) = (view k.original ≡ d) × (k.location ≡ L)
IsNot L d k = ⊥

-- `if` beside `then`, beside `else`, or beside both
abbrev pub IsIf : {K R N : Type 0} → Path → Bool → Bool → KeywordOver K R N → Type 0
IsIf L true false (keyword.IfThen k) = k.value.location ≡ L
IsIf L false true (keyword.IfElse k) = k.value.location ≡ L
IsIf L true true (keyword.IfThenElse k) = k.value.location ≡ L
IsIf L t e k = ⊥

abbrev pub IsRequired : {K R N : Type 0} → Path → Data → KeywordOver K R N → Type 0
IsRequired L d (keyword.Required k) = (map string_bytes k.required.items ≡ texts d) × (k.location ≡ L)
IsRequired L d k = ⊥

-- `properties` of so many names at L in the object at P: with two fused names it has them, and without any it stands alone
abbrev pub IsProperties : {K R N : Type 0} → Path → Path → ℕ → Option (Name × Name) → KeywordOver K R N → Type 0
IsProperties P L n None (keyword.SmallProperties k) = IsMapFor n (Small k.properties) × (k.location ≡ L)
IsProperties P L n None (keyword.BigProperties k) = IsMapFor n (Big k.properties) × (k.location ≡ L)
IsProperties P L n (Some t) (keyword.PropertiesWithRequired2 k) = (k.value.location ≡ L) × (string_bytes k.value.first ≡ t.0) × (string_bytes k.value.second ≡ t.1) × (k.value.required_location ≡ P // codes "required")
IsProperties P L n t k = ⊥

-- `patternProperties` of so many patterns
abbrev pub IsPatternProperties : {K R N : Type 0} → Path → ℕ → KeywordOver K R N → Type 0
IsPatternProperties L n (keyword.PatternProperties k) = (n ≢ 1) × (k.location ≡ L)
IsPatternProperties L n (keyword.SingleValuePatternProperties k) = (n ≡ 1) × (k.value.location ≡ L)
IsPatternProperties L n k = ⊥

-- a map for so many names, or none
abbrev pub HasMapFor : {N : Type 0} → Option ℕ → Option (PropertiesMap N) → Type 0
HasMapFor None None = ⊤
HasMapFor None (Some m) = ⊥
HasMapFor (Some n) None = ⊥
HasMapFor (Some n) (Some m) = IsMapFor n m

-- `additionalProperties` at L in the object at P, over a node for the rest or without, over a map for so many declared names and so many patterns, if they stand there, and with the name that it fuses
abbrev pub IsAdditionalProperties : {K R N : Type 0} → Path → Path → Bool → Option ℕ → Option ℕ → Option Name → KeywordOver K R N → Type 0
IsAdditionalProperties {K} {R} {N} P L rest names patterns n (keyword.AdditionalProperties k) = (r : Option N) × (m : Option (PropertiesMap N)) × (x : Option (Patterns R N))
    × (is_some r ≡ rest) × HasMapFor names m × (option_map (λ x. length x.patterns.items) x ≡ patterns) × IsRestriction P L r m x n k
IsAdditionalProperties P L rest names patterns n k = ⊥

-- a map of these keys, each with a node, and its place
abbrev pub HasKeys : {N : Type 0} → SmallMap N → Path → Path → List Name → Type 0
HasKeys m M L ns = (keys_in (named m) ≡ ns) × (M ≡ L)

-- `dependencies`, `dependentRequired` or `dependentSchemas` with these keys
abbrev pub IsDependencies : {K R N : Type 0} → Path → List Name → KeywordOver K R N → Type 0
IsDependencies L ns (keyword.Dependencies k) = HasKeys k.dependencies k.location L ns
IsDependencies L ns k = ⊥

abbrev pub IsDependentRequired : {K R N : Type 0} → Path → List Name → KeywordOver K R N → Type 0
IsDependentRequired L ns (keyword.DependentRequired k) = HasKeys k.dependencies k.location L ns
IsDependentRequired L ns k = ⊥

abbrev pub IsDependentSchemas : {K R N : Type 0} → Path → List Name → KeywordOver K R N → Type 0
IsDependentSchemas L ns (keyword.DependentSchemas k) = HasKeys k.dependencies k.location L ns
IsDependentSchemas L ns k = ⊥

-- `propertyNames` with a schema
abbrev pub IsPropertyNames : {K R N : Type 0} → Path → KeywordOver K R N → Type 0
IsPropertyNames L (keyword.PropertyNames k) = k.location ≡ L
IsPropertyNames L k = ⊥

-- `propertyNames` that is `false`
abbrev pub IsPropertyNamesFalse : {K R N : Type 0} → Path → KeywordOver K R N → Type 0
IsPropertyNamesFalse L (keyword.PropertyNamesFalse k) = k.location ≡ L
IsPropertyNamesFalse L k = ⊥

-- `propertyDependencies` with these keys, and these texts at each
abbrev pub IsPropertyDependencies : {K R N : Type 0} → Path → List Name → List (List Name) → KeywordOver K R N → Type 0
IsPropertyDependencies L ns ts (keyword.PropertyDependencies k) = (keys_in (named k.dependencies) ≡ ns) × (map (λ m. keys_in (named m)) (nodes_in (named k.dependencies)) ≡ ts) × (k.location ≡ L)
IsPropertyDependencies L ns ts k = ⊥
