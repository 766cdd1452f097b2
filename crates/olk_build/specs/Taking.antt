-- What a keyword takes from its neighbours, and what is built of these.
use Rattle.std.specs.Prelude.{◌≡◌, ◌*◌, ◌&&◌, ℕ, Bool, true, false, cond, List, [], ◌∷◌, ◌++◌, map, length, zip, codes, bytes_eq, Option, Some, None, option_to_list, Result, IfOk, IfErr, Vec}
use Rattle.serde_json.specs.Data.{Data, Members}
use Rattle.olk_spec.specs.Names.{Name, Path, ◌//◌, lookup_name}
use Rattle.olk_reports.specs.declared.error.BuildError.{BuildError}
use Rattle.olk_meaning.specs.AdditionalProperties.{rows_at}
use Rattle.olk_meaning.specs.Conditions.{Known, known_of, is_condition}
use Rattle.olk_meaning.specs.Plans.{Planned, plan_of}
use Rattle.olk_build.specs.Refusing.{Spends, Refuses}
use Rattle.olk_build.specs.Reading.{reads_of, IsShape, Fits}
use Rattle.olk_build.specs.declared.shape.Shape.{Shape}
use Rattle.olk_tree.specs.Tables.{patterns_of, IsTableOf, how_many_cost}
use Rattle.olk_build.specs.Standing.{all_malformed, StandAt, PartStands, FillsPlace, IsLast, is_taken, is_if_shape, is_restriction_shape, CasesStand, BesideStands}
use Rattle.olk_build.specs.Building.{IsMember, all_cost, SpendsBefore}
use Rattle.std.specs.{declared.alloc.Global.Global, Option.IfSome}
use Rattle.olk_spec.specs.{Schemas.listed, Malformed.has_repeat, World.Says}
use Rattle.olk_base.specs.{Count.Counts, Kit.Kit, declared.pattern.CompiledPattern.CompiledPattern}
use Rattle.olk_tree.specs.{Answers.Answers, declared.node.KeywordOver.KeywordOver}
use Rattle.olk_build.specs.{Making.IsMadeOf, declared.part.Part.Part, declared.part.DeclaredNodes.DeclaredNodes, declared.part.Patterns.Patterns}
use Rattle.olk_build.specs.declared.part.TakenNeighbours.{TakenNeighbours}
use Rattle.olk_build.specs.declared.shape.Shape.TheVariants as shape
use Rattle.olk_tree.specs.Steps.{StepsOf}

-- the two neighbours that the keyword of the name k takes: `if` takes `then` and `else`, and `additionalProperties` the keywords that tell members by their names
abbrev pub takes : Planned → Name → Option (Name × Name)
takes p k = cond (p.condition && bytes_eq (codes "if") k) (Some (codes "then", codes "else")) (cond (p.restricted && bytes_eq (codes "additionalProperties") k) (Some (codes "properties", codes "patternProperties")) None)

-- and by its shape
abbrev pub takes_of : {K R : Type 0} → Shape K R → Option (Name × Name)
takes_of shape.If = Some (codes "then", codes "else")
takes_of shape.AdditionalProperties = Some (codes "properties", codes "patternProperties")
takes_of shape.NoOthers = Some (codes "properties", codes "patternProperties")
takes_of x = None

-- the members that stand there
abbrev pub rows_taken : Members → Option (Name × Name) → List (Name × Data)
rows_taken ms None = []
rows_taken ms (Some t) = rows_at t.0 ms ++ rows_at t.1 ms

-- the members that are read for a member: itself and those that it takes, and none where it is taken
abbrev pub rows_read : Members → Name × Data → List (Name × Data)
rows_read ms m = cond (is_taken (plan_of ms) m.0) [] (m ∷ rows_taken ms (takes (plan_of ms) m.0))

-- ---- what is taken of a part, if there is one

abbrev pub IsNode : {K R N : Type 0} → Option (Part K R N) → Option N → Type 0
IsNode None t = t ≡ None
IsNode (Some p) t = IsLast p.nodes.items t

abbrev pub DeclaredBy : {K R N : Type 0} → Shape K R → Part K R N → Option (DeclaredNodes N) → Type 0
DeclaredBy (shape.Properties names) p t = t ≡ Some (record { names = names; nodes = p.nodes })
DeclaredBy x p t = t ≡ None

abbrev pub IsDeclared : {K R N : Type 0} → Option (Part K R N) → Option (DeclaredNodes N) → Type 0
IsDeclared None t = t ≡ None
IsDeclared (Some p) t = DeclaredBy p.shape p t

module _ {K R N : Type 0} (says : R → Name → Says) (c : Known) where
  -- patterns with the nodes of the part, and the table of what they say of the names that are known to be declared
  pub record HoldsPatterns (v : Vec (CompiledPattern R) Global) (p : Part K R N) (x : Patterns R N) : Type 0 where
    pub place : x.location ≡ p.location
    pub entries : x.patterns.items ≡ zip v.items p.nodes.items
    pub names : x.table.names ≡ map (λ e. e.0) c.declared
    pub table : IsTableOf says (patterns_of x.patterns.items) x.table

  abbrev pub PatternsBy : Shape K R → Part K R N → Option (Patterns R N) → Type 0
  PatternsBy (shape.PatternProperties v) p None = ⊥
  PatternsBy (shape.PatternProperties v) p (Some x) = HoldsPatterns v p x
  PatternsBy x p t = t ≡ None

  abbrev pub IsPatterns : Option (Part K R N) → Option (Patterns R N) → Type 0
  IsPatterns None t = t ≡ None
  IsPatterns (Some p) t = PatternsBy p.shape p t

  -- what a keyword of this shape takes of two parts
  abbrev pub TakenBy : Shape K R → Option (Part K R N) → Option (Part K R N) → TakenNeighbours R N → Type 0
  TakenBy shape.If first second t = IsNode first t.cases.then_schema × IsNode second t.cases.else_schema
  TakenBy x first second t = IsDeclared first t.beside.properties × IsPatterns second t.beside.patterns

-- ---- how many matchers are asked for the table

module _ {K R N : Type 0} (costs : R → Bool) (c : Known) where
  abbrev pub asks_by : Shape K R → List N → ℕ
  asks_by (shape.PatternProperties v) ns = length c.declared * how_many_cost costs (patterns_of (zip v.items ns))
  asks_by x ns = 0

  abbrev pub asks_of : Option (Part K R N) → ℕ
  asks_of None = 0
  asks_of (Some p) = asks_by p.shape p.nodes.items

  abbrev pub asks_taken : Shape K R → Option (Part K R N) → ℕ
  asks_taken shape.If p = 0
  asks_taken x p = asks_of p

-- ---- neighbours, in the schema object with the members ms at P

module _ {K R : Type 0} {o : Kit K R} (I : StepsOf o) (ms : Members) where
  abbrev pub RefusesNeighbour : Name → Path → Counts → Counts → BuildError → Type 0
  RefusesNeighbour k P old new e = Refuses (all_malformed I ms P (rows_at k ms)) (all_cost I ms (rows_at k ms)) old new e

  abbrev pub RefusesTaken : Option (Name × Name) → Path → Counts → Counts → BuildError → Type 0
  RefusesTaken t P old new e = Refuses (all_malformed I ms P (rows_taken ms t)) (all_cost I ms (rows_taken ms t)) old new e

module _ {K R N : Type 0} {o : Kit K R} (I : StepsOf o) (answers : N → Answers) (ms : Members) where
  -- a part stands for the member of the name k, and there is none where there is no such member
  abbrev pub PartFills : Option (Part K R N) → Name → Path → Type 0
  PartFills p k P = FillsPlace (λ x d. PartStands I answers (known_of ms) x (k, d) P) p (lookup_name k (listed ms))

  pub record IsNeighbour (p : Option (Part K R N)) (k : Name) (P : Path) (old new : Counts) : Type 0 where
    pub stands : PartFills p k P
    pub clean : all_malformed I ms P (rows_at k ms) ≡ []
    pub spends : SpendsBefore I ms (rows_at k ms) old new

  -- what the keyword of this shape takes stands for the members that are there
  pub record TakenStands (x : Shape K R) (P : Path) (t : TakenNeighbours R N) : Type 0 where
    pub cases : is_if_shape x ≡ true → is_condition ms ≡ true → CasesStand I answers t.cases ms P
    pub beside : is_restriction_shape x ≡ true → BesideStands I answers (known_of ms) t.beside ms P

  pub record IsTaken (x : Shape K R) (P : Path) (old new : Counts) (t : TakenNeighbours R N) : Type 0 where
    pub stands : TakenStands x P t
    pub clean : all_malformed I ms P (rows_taken ms (takes_of x)) ≡ []
    pub spends : Spends old new (all_cost I ms (rows_taken ms (takes_of x)))

module _ {K R N : Type 0} {o : Kit K R} (I : StepsOf o) (answers : N → Answers) where
  -- what is made of a shape and nodes at L is made of the part's member, in each object at P that has this plan and where what was taken stands for the neighbours
  abbrev pub MakesTaking : Shape K R → Path → List N → TakenNeighbours R N → Path → Planned → Option (KeywordOver K R N) → Type 0
  MakesTaking x L ns t P q r = (ms : Members) (m : Name × Data) → L ≡ P // m.0 → IsShape o m.0 m.1 x → Fits o (known_of ms) x → StandAt I answers (reads_of x) ns m.1 L → TakenStands I answers ms x P t
      → has_repeat (map (λ m. m.0) (listed ms)) ≡ false → IsMember ms m → q ≡ plan_of ms → is_taken q m.0 ≡ false → IsMadeOf I answers ms m P r

  -- it stands behind the keywords before it
  pub record AppendsTaking (x : Shape K R) (L : Path) (ns : List N) (t : TakenNeighbours R N) (P : Path) (q : Planned) (old new : List (KeywordOver K R N)) : Type 0 where
    pub made : Option (KeywordOver K R N)
    pub behind : new ≡ old ++ option_to_list made
    pub makes : MakesTaking x L ns t P q made

  -- the same of a part that takes nothing
  pub record AppendsAlone (x : Shape K R) (L : Path) (ns : List N) (P : Path) (q : Planned) (old new : List (KeywordOver K R N)) : Type 0 where
    pub made : Option (KeywordOver K R N)
    pub behind : new ≡ old ++ option_to_list made
    pub makes : takes_of x ≡ None → (t : TakenNeighbours R N) → MakesTaking x L ns t P q made

-- ---- the member m of the schema object with the members ms at P, with the members that it takes

module _ {K R : Type 0} {o : Kit K R} (I : StepsOf o) (ms : Members) (m : Name × Data) (P : Path) (old new : Counts) where
  pub record MemberIsBuilt {N : Type 0} (answers : N → Answers) (r : Option (KeywordOver K R N)) : Type 0 where
    pub made : IsMadeOf I answers ms m P r
    pub clean : all_malformed I ms P (rows_read ms m) ≡ []
    pub spends : Spends old new (all_cost I ms (rows_read ms m))

  abbrev pub RefusesMember : BuildError → Type 0
  RefusesMember e = Refuses (all_malformed I ms P (rows_read ms m)) (all_cost I ms (rows_read ms m)) old new e

  -- its keyword, or why there is none, if any of these is given
  abbrev pub GivesMember : {N : Type 0} → (N → Answers) → Option (Result (KeywordOver K R N) BuildError) → Type 0
  GivesMember answers r = IsMember ms m → IfSome r (λ x. IfOk x (λ k. MemberIsBuilt answers (Some k)) × IfErr x RefusesMember)

-- what is given of the member is of this form
abbrev pub Gives : {X E : Type 0} → Members → Name × Data → Option (Result X E) → (X → Type 0) → Type 0
Gives ms m r form = IsMember ms m → IfSome r (λ x. IfOk x form)
