-- What building a node, or a part of one, promises.
use Rattle.std.specs.Prelude.{◌≡◌, Bool, true, false, not, List, [], ◌++◌, Some, ◌∷◌}
use Rattle.std.specs.List.{flat_map}
use Rattle.serde_json.specs.Data.{Data, Members}
use Rattle.olk_spec.specs.Names.{Name, Path, ◌//◌, lookup_name, filter_once}
use Rattle.olk_spec.specs.Faults.{Fault}
use Rattle.olk_spec.specs.Vocabulary.{Keyword, pattern_properties, keyword_named}
use Rattle.olk_spec.specs.Schemas.{listed, members, is_array, numbered}
use Rattle.olk_spec.specs.Costs.{Cost, no_cost, total_cost, ◌⊕◌}
use Rattle.olk_spec.specs.Malformed.{items_of_array}
use Rattle.olk_reports.specs.declared.error.BuildError.{BuildError}
use Rattle.olk_meaning.specs.Conditions.{Known, known_of, IsKnown}
use Rattle.olk_meaning.specs.Members.{member_malformations, member_cost}
use Rattle.olk_meaning.specs.PatternProperties.{names_asked}
use Rattle.olk_build.specs.Refusing.{Spends, Refuses, ArePaid}
use Rattle.olk_build.specs.Reading.{patterns_wrong, patterns_cost}
use Rattle.olk_build.specs.Standing.{StandEach, StandInner, which, all_malformed, EntriesStand, StandAt, PartsStand}
use Rattle.olk_build.specs.declared.shape.ReadPlaces.{ReadPlaces}
use Rattle.olk_build.specs.declared.shape.ReadPlaces.TheVariants.{Nothing, Itself, Entries, SchemaEntries, InnerEntries, Branches}
use Rattle.olk_base.specs.{Count.Counts, Kit.Kit, declared.pattern.CompiledPattern.CompiledPattern}
use Rattle.olk_tree.specs.{Answers.Answers, declared.node.KeywordOver.KeywordOver}
use Rattle.olk_build.specs.{Chooser.AreChosen, Making.ObjectIsMade, declared.part.Part.Part}
use Rattle.olk_meaning.specs.Steps.{malformations_at, cost}
use Rattle.olk_tree.specs.Steps.{StandsBy, StepsOf}

-- ---- what building a node, or a part of one, promises

-- the entries that are no lists
abbrev pub no_lists : List (Name × Data) → List (Name × Data)
no_lists es = filter_once (λ e. not (is_array e.1)) es

-- the entries that are read as schemas, and whether one is: each, but for lists where these are passed over
abbrev pub entries_read : Bool → List (Name × Data) → List (Name × Data)
entries_read true es = no_lists es
entries_read false es = es

abbrev pub is_read : Bool → Data → Bool
is_read true d = not (is_array d)
is_read false d = true

-- the member stands in the schema object
abbrev pub IsMember : Members → Name × Data → Type 0
IsMember ms m = lookup_name m.0 (listed ms) ≡ Some m.1

module _ {K R : Type 0} {o : Kit K R} (I : StepsOf o) where
  -- ---- a node for a schema at a place

  pub record IsBuilt {N : Type 0} (answers : N → Answers) (n : N) (S : Data) (P : Path) (old new : Counts) : Type 0 where
    pub stands : StandsBy I answers n S P
    pub clean : malformations_at I.steps S P ≡ []
    pub spends : Spends old new (cost I.steps S)

  abbrev pub RefusesSchema : Data → Path → Counts → Counts → BuildError → Type 0
  RefusesSchema S P old new e = Refuses (malformations_at I.steps S P) (cost I.steps S) old new e

  -- ---- nodes for schemas under names, below a place

  abbrev pub each_malformed : Path → List (Name × Data) → List Fault
  each_malformed P es = flat_map (λ e. malformations_at I.steps e.1 (P // e.0)) es

  abbrev pub each_cost : List (Name × Data) → Cost
  each_cost es = total_cost (λ e. cost I.steps e.1) es

  abbrev pub AreBuilt : {N : Type 0} → (N → Answers) → List N → List (Name × Data) → Path → Counts → Counts → Type 0
  AreBuilt answers ns es P old new = ArePaid (λ e. malformations_at I.steps e.1 (P // e.0)) (λ e. cost I.steps e.1) (λ ns es. StandEach I answers ns es P) ns es old new

  abbrev pub RefusesEach : List (Name × Data) → Path → Counts → Counts → BuildError → Type 0
  RefusesEach es P old new e = Refuses (each_malformed P es) (each_cost es) old new e

  -- ---- patterns beside nodes, for entries below a place

  pub record PatternsAreBuilt {N : Type 0} (answers : N → Answers) (ps : List (CompiledPattern R × N)) (es : List (Name × Data)) (P : Path) (old new : Counts) : Type 0 where
    pub stand : EntriesStand I answers ps es P
    pub clean : patterns_wrong o P es ++ each_malformed P es ≡ []
    pub spends : Spends old new (patterns_cost o es ⊕ each_cost es)

  abbrev pub RefusesPatternEntries : List (Name × Data) → Path → Counts → Counts → BuildError → Type 0
  RefusesPatternEntries es P old new e = Refuses (patterns_wrong o P es ++ each_malformed P es) (patterns_cost o es ⊕ each_cost es) old new e

  -- ---- nodes for the entries of each of these

  abbrev pub inner_malformed : Path → List (Name × Data) → List Fault
  inner_malformed P es = flat_map (λ e. each_malformed (P // e.0) (members e.1)) es

  abbrev pub inner_cost : List (Name × Data) → Cost
  inner_cost es = total_cost (λ e. each_cost (members e.1)) es

  abbrev pub InnerAreBuilt : {N : Type 0} → (N → Answers) → List N → List (Name × Data) → Path → Counts → Counts → Type 0
  InnerAreBuilt answers ns es P old new = ArePaid (λ e. each_malformed (P // e.0) (members e.1)) (λ e. each_cost (members e.1)) (λ ns es. StandInner I answers ns es P) ns es old new

  abbrev pub RefusesInner : List (Name × Data) → Path → Counts → Counts → BuildError → Type 0
  RefusesInner es P old new e = Refuses (inner_malformed P es) (inner_cost es) old new e

  -- ---- keywords and parts of the schema object with the members ms at P

  module _ (ms : Members) where
    abbrev pub all_cost : List (Name × Data) → Cost
    all_cost es = total_cost (λ m. member_cost I.steps ms m (which o ms m)) es

    -- what is counted for a keyword after its part is built: where other members are restricted, each matcher is asked of each declared name
    abbrev pub later_cost : Data → Keyword → Cost
    later_cost d pattern_properties = names_asked o.world (known_of ms).declared d
    later_cost d w = no_cost

    abbrev pub all_later : List (Name × Data) → Cost
    all_later es = total_cost (λ m. later_cost m.1 (which o ms m)) es

    -- what the members cost is counted, but for that
    pub record SpendsBefore (es : List (Name × Data)) (old new : Counts) : Type 0 where
      pub spent : Cost
      pub exactly : Spends old new spent
      pub whole : all_cost es ≡ spent ⊕ all_later es

    -- keywords for the object
    pub record ObjectIsBuilt {N : Type 0} (answers : N → Answers) (ks : List (KeywordOver K R N)) (P : Path) (old new : Counts) : Type 0 where
      pub mean : ObjectIsMade I answers ms ks P
      pub chosen : AreChosen ms P (keyword_named o.world) (listed ms) ks
      pub clean : all_malformed I ms P (listed ms) ≡ []
      pub spends : Spends old new (all_cost (listed ms))

    abbrev pub RefusesObject : Path → Counts → Counts → BuildError → Type 0
    RefusesObject P old new e = Refuses (all_malformed I ms P (listed ms)) (all_cost (listed ms)) old new e

  -- ---- what is told where nothing is built for a member of the name k and the value d at its place, in each object of whose neighbours c is known as far as the keyword has to know them

  abbrev pub RefusesPart : Known → Name → Data → Path → Counts → Counts → BuildError → Type 0
  RefusesPart c k d at old new e = (ms : Members) (P : Path) → at ≡ P // k → IsKnown c ms k → Refuses (member_malformations I.steps ms (k, d) (which o ms (k, d)) P) (member_cost I.steps ms (k, d) (which o ms (k, d))) old new e

-- ---- what the places of a keyword and the parts of a schema object are built of

module _ {K R : Type 0} {o : Kit K R} (I : StepsOf o) where
  abbrev pub places_malformed : ReadPlaces → Data → Path → List Fault
  places_malformed Nothing d L = []
  places_malformed Itself d L = malformations_at I.steps d L
  places_malformed Entries d L = each_malformed I L (members d)
  places_malformed SchemaEntries d L = each_malformed I L (no_lists (members d))
  places_malformed InnerEntries d L = inner_malformed I L (members d)
  places_malformed Branches d L = each_malformed I L (numbered (items_of_array d))

  abbrev pub places_cost : ReadPlaces → Data → Cost
  places_cost Nothing d = no_cost
  places_cost Itself d = cost I.steps d
  places_cost Entries d = each_cost I (members d)
  places_cost SchemaEntries d = each_cost I (no_lists (members d))
  places_cost InnerEntries d = inner_cost I (members d)
  places_cost Branches d = each_cost I (numbered (items_of_array d))

  abbrev pub RefusesPlaces : ReadPlaces → Data → Path → Counts → Counts → BuildError → Type 0
  RefusesPlaces r d L old new e = Refuses (places_malformed r d L) (places_cost r d) old new e

  pub record PlacesAreBuilt {N : Type 0} (answers : N → Answers) (r : ReadPlaces) (ns : List N) (d : Data) (L : Path) (old new : Counts) : Type 0 where
    pub stand : StandAt I answers r ns d L
    pub clean : places_malformed r d L ≡ []
    pub spends : Spends old new (places_cost r d)

  -- parts for the members es of the schema object with the members ms at P
  pub record PartsAreBuilt {N : Type 0} (answers : N → Answers) (ms : Members) (ps : List (Part K R N)) (es : List (Name × Data)) (P : Path) (old new : Counts) : Type 0 where
    pub stand : PartsStand I answers (known_of ms) ps es P
    pub clean : all_malformed I ms P es ≡ []
    pub spends : SpendsBefore I ms es old new

  -- the part of the keyword of the name k and the value d at its place, in each object of whose neighbours c is known as far as the keyword has to know them
  abbrev pub IsPart : {N : Type 0} → (N → Answers) → Part K R N → Known → Name → Data → Path → Counts → Counts → Type 0
  IsPart answers p c k d L old new = (ms : Members) (P : Path) → L ≡ P // k → IsKnown c ms k → PartsAreBuilt answers ms (p ∷ []) ((k, d) ∷ []) P old new
