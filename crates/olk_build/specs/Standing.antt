-- What nodes and the parts of a schema object stand for, and what its validators mean together.
use Rattle.std.specs.Prelude.{◌≡◌, ◌≤◌, ◌&&◌, ℕ, Bool, false, List, [], ◌∷◌, ◌++◌, map, ⊤, ◌||◌, true, not, codes, Option, Some, None}
use Rattle.std.specs.List.{AllZip, list_all, flat_map, sum_by}
use Rattle.serde_json.specs.Data.{Data, Members}
use Rattle.olk_spec.specs.Names.{Name, Path, ◌//◌, lookup_name, filter_once}
use Rattle.olk_spec.specs.Vocabulary.{Keyword, keyword_named}
use Rattle.olk_spec.specs.Faults.{Fault, ◌∼◌}
use Rattle.olk_spec.specs.Schemas.{members, listed, numbered, is_array, is_object, is_truth}
use Rattle.olk_tree.specs.Questions.{every, of_asked}
use Rattle.olk_tree.specs.Validators.{validator_means, validator_report, validator_tree, validator_formed, validator_forms}
use Rattle.olk_meaning.specs.Chosen.{Placed}
use Rattle.olk_meaning.specs.Conditions.{is_restricted, Known}
use Rattle.olk_meaning.specs.Plans.{tells_members, Planned, is_case}
use Rattle.olk_meaning.specs.Members.{member_accepts, member_asks, member_report, member_malformations}
use Rattle.olk_tree.specs.Tables.{patterns_of, IsTableOf}
use Rattle.olk_build.specs.declared.shape.ReadPlaces.TheVariants.{Nothing, Itself, Entries, SchemaEntries, InnerEntries, Branches}
use Rattle.olk_build.specs.Reading.{reads_of, IsShape, Fits}
use Rattle.olk_spec.specs.{Tree.Tree, Malformed.items_of_array}
use Rattle.olk_base.specs.{Kit.Kit, declared.pattern.CompiledPattern.CompiledPattern}
use Rattle.olk_tree.specs.{Answers.Answers, declared.node.KeywordOver.KeywordOver}
use Rattle.olk_build.specs.{declared.shape.ReadPlaces.ReadPlaces, Reading.IsPattern, declared.shape.Shape.Shape}
use Rattle.olk_build.specs.{declared.part.Part.Part, declared.part.Cases.Cases, declared.part.Patterns.Patterns, declared.part.Beside.Beside}
use Rattle.olk_build.specs.declared.part.DeclaredNodes.{DeclaredNodes}
use Rattle.olk_build.specs.declared.shape.Shape.TheVariants as shape
use Rattle.olk_tree.specs.Steps.{StandsBy, StepsOf}

-- ---- what nodes stand for, and what the validators of a schema object mean together

module _ {K R : Type 0} (o : Kit K R) (ms : Members) where
  -- which keyword a member is
  abbrev pub which : Name × Data → Keyword
  which m = keyword_named o.world m.0

module _ {K R : Type 0} {o : Kit K R} (I : StepsOf o) (ms : Members) where
  abbrev pub all_malformed : Path → List (Name × Data) → List Fault
  all_malformed P es = flat_map (λ m. member_malformations I.steps ms m (which o ms m) P) es

module _ {K R N : Type 0} {o : Kit K R} (I : StepsOf o) (answers : N → Answers) where
  -- ---- nodes for schemas under names, below a place

  abbrev pub StandEach : List N → List (Name × Data) → Path → Type 0
  StandEach ns es P = AllZip (λ n e. StandsBy I answers n e.1 (P // e.0)) ns es

  -- nodes for the entries of each of these, one list behind the other
  abbrev pub StandInner : List N → List (Name × Data) → Path → Type 0
  StandInner ns [] P = ns ≡ []
  StandInner ns (e ∷ es) P = (here : List N) × (after : List N) × (ns ≡ here ++ after) × StandEach here (members e.1) (P // e.0) × StandInner after es P

  -- ---- keywords for members of the schema object with the members ms at P

  module _ (ms : Members) (ks : List (KeywordOver K R N)) where
    -- what the keywords answer together
    abbrev pub means : Data → Bool → Bool
    means v u = (every (λ k. validator_means o (λ n. (answers n).means) k v) ks).accepts u

    abbrev pub ask : Data → Bool → ℕ
    ask v u = (every (λ k. validator_means o (λ n. (answers n).means) k v) ks).asks of_asked u

    abbrev pub find : Bool → Data → Path → List Fault
    find u v Q = flat_map (λ k. validator_report o (λ n. (answers n).means) (λ n. (answers n).report) u k v Q) ks

    abbrev pub show : Bool → Data → Path → List Tree
    show u v Q = map (λ k. validator_tree o (λ n. (answers n).means) (λ n. (answers n).tree) u k v Q) ks

    -- whether each has the form that is chosen for what it holds, and so have all nodes inside
    abbrev pub all_formed : Bool
    all_formed = list_all (λ k. validator_formed o (λ n. (answers n).formed) k) ks

    -- each validator before what stands inside it
    abbrev pub stand : List Placed
    stand = flat_map (λ k. validator_forms o (λ n. (answers n).forms) k) ks

    -- it is what one member means; what is asked is bounded where `additionalProperties` doesn't take the keyword over
    pub record HoldsMember (m : Name × Data) (w : Keyword) (P : Path) : Type 0 where
      pub verdict : (u : Bool) (v : Data) → means v u ≡ member_accepts I.steps ms m w u v
      pub asks_within : (is_restricted ms && tells_members m.0) ≡ false → (u : Bool) (v : Data) → ask v u ≤ member_asks I.steps ms m w u v
      pub faults : (u : Bool) (v : Data) (Q : Path) → find u v Q ∼ member_report I.steps ms m w u v P Q

    -- it is what some members mean together
    pub record Covers (es : List (Name × Data)) (P : Path) : Type 0 where
      pub verdict : (u : Bool) (v : Data) → means v u ≡ list_all (λ m. member_accepts I.steps ms m (which o ms m) u v) es
      pub asks_within : (u : Bool) (v : Data) → ask v u ≤ sum_by (λ m. member_asks I.steps ms m (which o ms m) u v) es
      pub faults : (u : Bool) (v : Data) (Q : Path) → find u v Q ∼ flat_map (λ m. member_report I.steps ms m (which o ms m) u v P Q) es

-- ---- what the nodes and the parts of a schema object stand for

-- another keyword takes what the part of the name k holds: `if` of `then` and `else`, and `additionalProperties` of the keywords that tell members by their names
abbrev pub is_taken : Planned → Name → Bool
is_taken p k = (p.restricted && tells_members k) || (p.condition && is_case k)

abbrev pub is_if_shape : {K R : Type 0} → Shape K R → Bool
is_if_shape shape.If = true
is_if_shape x = false

-- `additionalProperties` that is false or an object
abbrev pub is_restriction_shape : {K R : Type 0} → Shape K R → Bool
is_restriction_shape shape.AdditionalProperties = true
is_restriction_shape shape.NoOthers = true
is_restriction_shape x = false

-- the last of these, if there is one
abbrev pub IsLast : {X : Type 0} → List X → Option X → Type 0
IsLast xs None = xs ≡ []
IsLast {X} xs (Some x) = (before : List X) × (xs ≡ before ++ x ∷ [])

-- something, or nothing, for the schema that is there, or for none
abbrev pub FillsPlace : {X : Type 0} → (X → Data → Type 0) → Option X → Option Data → Type 0
FillsPlace Stands None None = ⊤
FillsPlace Stands None (Some d) = ⊥
FillsPlace Stands (Some x) None = ⊥
FillsPlace Stands (Some x) (Some d) = Stands x d

module _ {K R N : Type 0} {o : Kit K R} (I : StepsOf o) (answers : N → Answers) where
  -- nodes for the places that are read in a value at L
  abbrev pub StandAt : ReadPlaces → List N → Data → Path → Type 0
  StandAt Nothing ns d L = ns ≡ []
  StandAt Itself [] d L = ⊥
  StandAt Itself (n ∷ []) d L = StandsBy I answers n d L
  StandAt Itself (n ∷ m ∷ ns) d L = ⊥
  StandAt Entries ns d L = StandEach I answers ns (members d) L
  StandAt SchemaEntries ns d L = StandEach I answers ns (filter_once (λ e. not (is_array e.1)) (members d)) L
  StandAt InnerEntries ns d L = StandInner I answers ns (members d) L
  StandAt Branches ns d L = StandEach I answers ns (numbered (items_of_array d)) L

  -- patterns beside nodes: each entry stands for the pattern and the schema at its place
  abbrev pub EntriesStand : List (CompiledPattern R × N) → List (Name × Data) → Path → Type 0
  EntriesStand es ds L = AllZip (λ e d. IsPattern o e.0 d.0 × StandsBy I answers e.1 d.1 (L // d.0)) es ds

  -- c is known of the neighbours in the schema object at P
  module _ (c : Known) where
    -- a part stands for the member m
    pub record PartStands (p : Part K R N) (m : Name × Data) (P : Path) : Type 0 where
      pub place : p.location ≡ P // m.0
      pub shape : IsShape o m.0 m.1 p.shape
      pub fits : Fits o c p.shape
      pub nodes : StandAt (reads_of p.shape) p.nodes.items m.1 (P // m.0)

    abbrev pub PartsStand : List (Part K R N) → List (Name × Data) → Path → Type 0
    PartsStand ps es P = AllZip (λ p m. PartStands p m P) ps es

    -- patterns with their nodes and their table stand for `patternProperties` at L
    pub record PatternsStand (x : Patterns R N) (L : Path) (d : Data) : Type 0 where
      pub place : x.location ≡ L
      pub kind : is_object d ≡ true
      pub entries : EntriesStand x.patterns.items (members d) L
      pub names : x.table.names ≡ map (λ e. e.0) c.declared
      pub table : IsTableOf o.answers (patterns_of x.patterns.items) x.table

  -- names with their nodes stand for `properties` at L
  pub record DeclaredStand (x : DeclaredNodes N) (L : Path) (d : Data) : Type 0 where
    pub kind : is_object d ≡ true
    pub names : x.names ≡ map (λ e. e.0) (members d)
    pub nodes : StandEach I answers x.nodes.items (members d) L

  -- the node of `additionalProperties` at L, and none where that is false
  abbrev pub RestStands : Option N → Data → Path → Type 0
  RestStands None d L = is_truth false d ≡ true
  RestStands (Some n) d L = (is_object d ≡ true) × StandsBy I answers n d L

  -- in the schema object with the members ms at P, for what stands at `then` and at `else`
  abbrev pub CasesStand : Cases N → Members → Path → Type 0
  CasesStand cs ms P = FillsPlace (λ n d. StandsBy I answers n d (P // codes "then")) cs.then_schema (lookup_name (codes "then") (listed ms)) × FillsPlace (λ n d. StandsBy I answers n d (P // codes "else")) cs.else_schema (lookup_name (codes "else") (listed ms))

  -- and for what stands at `properties` and at `patternProperties`
  abbrev pub BesideStands : Known → Beside R N → Members → Path → Type 0
  BesideStands c b ms P = FillsPlace (λ x. DeclaredStand x (P // codes "properties")) b.properties (lookup_name (codes "properties") (listed ms)) × FillsPlace (λ x. PatternsStand c x (P // codes "patternProperties")) b.patterns (lookup_name (codes "patternProperties") (listed ms))
