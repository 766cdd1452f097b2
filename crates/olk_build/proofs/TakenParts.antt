-- What a keyword takes of its neighbours, what is counted for it, and what is made with it.
use Rattle.std.proofs.Common.{◌≡◌, List, [], ◌++◌, map, Option, Some, None, is_some, option_to_list, ◌&&◌, Bool, true, false, not, cond, ◌∷◌, codes, bytes_eq, ◌*◌, length, zip, unwrap_or, refl, sym}
use Rattle.std.proofs.Common.{◌∙◌, ap, subst, arith, true≢false}
use Rattle.serde_json.specs.Data.{Data, Members}
use Rattle.olk_spec.specs.Names.{Name, Path, ◌//◌, lookup_name}
use Rattle.olk_spec.specs.Schemas.{listed, members}
use Rattle.olk_spec.specs.Costs.{Cost, no_cost, total_cost, ◌⊕◌}
use Rattle.olk_spec.proofs.CostSums.{sum_last, total_cost-append}
use Rattle.olk_meaning.specs.Conditions.{Known, known_of, IsKnown, is_conditional_name, is_condition, is_restriction, is_restricted}
use Rattle.olk_meaning.specs.Members.{member_malformations, member_cost}
use Rattle.olk_build.specs.Refusing.{Spends, SpendsWithin, Refuses}
use Rattle.olk_build.proofs.Spending.{spends_nothing, spends_append, spends_same, within_after, within_before, within_exactly, within_same, refuses_among, tells_left, tells_right, tells_same}
use Rattle.olk_build.proofs.Spending.{refuses_memory}
use Rattle.olk_build.specs.Standing.{which, all_malformed, PartStands, FillsPlace, StandAt, EntriesStand, is_if_shape, is_restriction_shape, is_taken, DeclaredStand, PatternsStand, CasesStand, BesideStands}
use Rattle.olk_build.specs.Building.{RefusesPart, all_cost, all_later, SpendsBefore, IsMember, later_cost, IsPart}
use Rattle.olk_build.specs.Taking.{RefusesNeighbour, RefusesTaken, IsNeighbour, takes, takes_of, IsNode, DeclaredBy, IsDeclared, PatternsBy, IsPatterns, MakesTaking, rows_taken, TakenBy, asks_by}
use Rattle.olk_build.specs.Taking.{asks_of, asks_taken, TakenStands, IsTaken}
use Rattle.olk_spec.specs.Vocabulary.{Keyword, leaf, unread, keyword_named}
use Rattle.olk_meaning.specs.Plans.{Planned, plan_of, head, claims}
use Rattle.olk_build.specs.Reading.{reads_of, IsShape, Fits}
use Rattle.olk_build.specs.Making.{KeywordsMean, MakesPart, IsMadeOf}
use Rattle.olk_build.proofs.Choosing.{chosen, both_stand}
use Rattle.olk_build.proofs.Makes.{neighbours, part_of_alone, makes_leaf, restriction_named}
use Rattle.olk_build.proofs.Formed.{taken_stands}
use Rattle.olk_meaning.proofs.{Claims.apart_by, AdditionalProperties.true_allows}
use Rattle.olk_build.proofs.ReadPatterns.{asks, open_cost, spends_asks, within_asks}
use Rattle.olk_tree.specs.Tables.{patterns_of, count_asks, AsksAtMost}
use Rattle.std.specs.{List.flat_map, declared.alloc.AllocError.AllocError}
use Rattle.std.proofs.{lemmas.Grind.flat_map-append, Math.Bool.and-false}
use Rattle.olk_spec.specs.{Faults.Fault, Malformed.has_repeat}
use Rattle.olk_base.specs.{Count.Counts, Kit.Kit, declared.pattern.CompiledPattern.CompiledPattern}
use Rattle.olk_reports.specs.{declared.error.BuildError.BuildError, declared.error.BuildError.TheVariants.Memory}
use Rattle.olk_tree.specs.{Answers.Answers, declared.node.KeywordOver.KeywordOver}
use Rattle.olk_meaning.specs.{AdditionalProperties.rows_at, PatternProperties.open_names}
use Rattle.olk_build.specs.{declared.part.Part.Part, Made.IsMade, declared.part.TakenNeighbours.TakenNeighbours, declared.part.DeclaredNodes.DeclaredNodes}
use Rattle.olk_build.specs.declared.part.Patterns.{Patterns}
use Rattle.olk_build.specs.{declared.shape.Shape.Shape, declared.shape.ReadPlaces.TheVariants.Itself, Reading.ArePatterns}
use Rattle.olk_tree.specs.declared.node.KeywordOver.TheVariants as keyword
use Rattle.olk_build.specs.declared.shape.Shape.TheVariants as shape
use Rattle.olk_tree.specs.Steps.{StandsBy, StepsOf}

-- ---- what is built of neighbours, and what the keyword means that takes them

pub within_append : {a b d : Counts} {x y : Cost} → SpendsWithin a b x → SpendsWithin b d y → SpendsWithin a d (x ⊕ y)
within_append {a} {b} {d} h k = record {
  spent = h.spent ⊕ k.spent;
  exactly = spends_append a b d h.spent k.spent h.exactly k.exactly;
  within = record {
    places = omega (arith, h.within.places, k.within.places);
    leaf_places = omega (arith, h.within.leaf_places, k.within.leaf_places);
    pattern_places = omega (arith, h.within.pattern_places, k.within.pattern_places);
    table_asks = omega (arith, h.within.table_asks, k.within.table_asks);
  };
}

module _ {K R : Type 0} {o : Kit K R} {I : StepsOf o} {ms : Members} {es : List (Name × Data)} {a b : Counts} (h : SpendsBefore I ms es a b) where
  -- no more than all is counted before
  pub before_within : SpendsWithin a b (all_cost I ms es)
  before_within = within_same (sym h.whole) (within_before a b h.spent (all_later I ms es) (within_exactly h.exactly))

  -- where nothing is counted later, it is all
  pub nothing_later : all_later I ms es ≡ no_cost → Spends a b (all_cost I ms es)
  nothing_later e = spends_same a b _ _ (sym (h.whole ∙ ap (λ z. h.spent ⊕ z) e ∙ sum_last h.spent)) h.exactly

  -- what is counted later, and then it is all
  pub later_spent : {d : Counts} {x : Cost} → all_later I ms es ≡ x → Spends b d x → Spends a d (all_cost I ms es)
  later_spent {d} {x} e k = spends_same a d _ _ (sym (h.whole ∙ ap (λ z. h.spent ⊕ z) e)) (spends_append a b d _ _ h.exactly k)

  pub later_within : {d : Counts} {x : Cost} → all_later I ms es ≡ x → SpendsWithin b d x → SpendsWithin a d (all_cost I ms es)
  later_within {d} {x} e k = within_same (sym (h.whole ∙ ap (λ z. h.spent ⊕ z) e)) (within_after a b d _ _ h.exactly k)

module _ {K R : Type 0} {o : Kit K R} (I : StepsOf o) (ms : Members) (P : Path) where
  abbrev pub wrong : Name × Data → List Fault
  wrong m = member_malformations I.steps ms m (which o ms m) P

  abbrev pub costs : Name × Data → Cost
  costs m = member_cost I.steps ms m (which o ms m)

  -- the name of a member that is there is known as far as its keyword has to know its neighbours
  pub there_known : (k : Name) (d : Data) → lookup_name k (listed ms) ≡ Some d → IsKnown (known_of ms) ms k
  there_known k d there e = (refl, ap is_some there)

  -- ---- one neighbour

  pub neighbour_refused : (k : Name) {d : Data} {c : Known} {L : Path} {a b : Counts} {e : BuildError} → c ≡ known_of ms → lookup_name k (listed ms) ≡ Some d → L ≡ P // k
      → RefusesPart I c k d L a b e → RefusesNeighbour I ms k P a b e
  neighbour_refused k {d} {c} {L} {a} {b} {e} known there place h =
      refuses_among wrong costs (rows_at k ms) a b [] (k, d) [] a e (ap (λ x. map (λ d. (k, d)) (option_to_list x)) (sym there)) (spends_nothing a)
      (h ms P place (subst (λ x. IsKnown x ms k) (sym known) (there_known k d there)))

  -- ---- two, one after the other

  module _ (xs ys : List (Name × Data)) {a b : Counts} {e : BuildError} where
    pub first_refused : Refuses (flat_map wrong xs) (total_cost costs xs) a b e → Refuses (flat_map wrong (xs ++ ys)) (total_cost costs (xs ++ ys)) a b e
    first_refused h = record {
      tells = tells_same (sym (flat_map-append wrong xs ys)) e (tells_left (flat_map wrong xs) (flat_map wrong ys) e h.tells);
      spends = within_same (sym (total_cost-append costs xs ys)) (within_before a b (total_cost costs xs) (total_cost costs ys) h.spends);
    }

    pub second_refused : (m : Counts) → SpendsWithin a m (total_cost costs xs) → Refuses (flat_map wrong ys) (total_cost costs ys) m b e → Refuses (flat_map wrong (xs ++ ys)) (total_cost costs (xs ++ ys)) a b e
    second_refused m s h = record {
      tells = tells_same (sym (flat_map-append wrong xs ys)) e (tells_right (flat_map wrong xs) (flat_map wrong ys) e h.tells);
      spends = within_same (sym (total_cost-append costs xs ys)) (within_append s h.spends);
    }

  pub both_spent : (xs ys : List (Name × Data)) (a m b : Counts) → Spends a m (total_cost costs xs) → Spends m b (total_cost costs ys) → Spends a b (total_cost costs (xs ++ ys))
  both_spent xs ys a m b h k = spends_same a b _ _ (sym (total_cost-append costs xs ys)) (spends_append a m b _ _ h k)

module _ {K R N : Type 0} {o : Kit K R} {I : StepsOf o} {answers : N → Answers} {ms : Members} {P : Path} where
  pub no_neighbour : {k : Name} {a : Counts} → lookup_name k (listed ms) ≡ None → IsNeighbour I answers ms None k P a a
  no_neighbour {k} {a} e = record {
    stands = subst (FillsPlace (λ x d. PartStands I answers (known_of ms) x (k, d) P) None) (sym e) tt;
    clean = ap (λ x. all_malformed I ms P (map (λ d. (k, d)) (option_to_list x))) e;
    spends = subst (λ x. SpendsBefore I ms (map (λ d. (k, d)) (option_to_list x)) a a) (sym e) (record { spent = no_cost; exactly = spends_nothing a; whole = refl });
  }

  pub neighbour_built : {k : Name} {d : Data} {p : Part K R N} {c : Known} {L : Path} {a b : Counts} → c ≡ known_of ms → lookup_name k (listed ms) ≡ Some d → L ≡ P // k
      → IsPart I answers p c k d L a b → IsNeighbour I answers ms (Some p) k P a b
  neighbour_built {k} {d} {p} {c} {L} {a} {b} known there place part =
      let built = part ms P place (subst (λ x. IsKnown x ms k) (sym known) (there_known I ms P k d there)) in
      record {
        stands = subst (FillsPlace (λ x d. PartStands I answers (known_of ms) x (k, d) P) (Some p)) (sym there) built.stand.0;
        clean = ap (λ y. all_malformed I ms P (map (λ d. (k, d)) (option_to_list y))) there ∙ built.clean;
        spends = subst (λ y. SpendsBefore I ms (map (λ d. (k, d)) (option_to_list y)) a b) (sym there) built.spends;
      }

module _ {K R : Type 0} {o : Kit K R} (I : StepsOf o) (ms : Members) (P : Path) where
  pub first_taken_refused : {t : Option (Name × Name)} (x y : Name) (a b : Counts) (e : BuildError) → t ≡ Some (x, y) → RefusesNeighbour I ms x P a b e → RefusesTaken I ms t P a b e
  first_taken_refused {t} x y a b e q h = subst (λ z. RefusesTaken I ms z P a b e) (sym q) (first_refused I ms P (rows_at x ms) (rows_at y ms) h)

module _ {K R N : Type 0} {o : Kit K R} {I : StepsOf o} {answers : N → Answers} {ms : Members} {P : Path} where
  pub second_taken_refused : {t : Option (Name × Name)} {x : Name} (y : Name) {p : Option (Part K R N)} {a m : Counts} (b : Counts) (e : BuildError) → t ≡ Some (x, y)
      → IsNeighbour I answers ms p x P a m → RefusesNeighbour I ms y P m b e → RefusesTaken I ms t P a b e
  second_taken_refused {t} {x} y {a = a} {m} b e q h k = subst (λ z. RefusesTaken I ms z P a b e) (sym q) (second_refused I ms P (rows_at x ms) (rows_at y ms) m (before_within h.spends) k)

-- ---- the keyword of a part, with what it takes from its neighbours' parts

abbrev pub has_no_shape : Keyword → Bool
has_no_shape leaf = true
has_no_shape unread = true
has_no_shape w = false

module _ {K R N : Type 0} {o : Kit K R} (I : StepsOf o) (answers : N → Answers) where
  -- the place of `then` or `else`, where the condition is read, is read itself
  case_reads_itself : (c : Known) (k : Name) → is_conditional_name k ≡ true → has_no_shape (keyword_named o.world k) ≡ false → (x : Shape K R) (d : Data) → IsShape o k d x → Fits o c x
      → c.condition ≡ true → reads_of x ≡ Itself
  case_reads_itself c k h n shape.If d s f read = refl
  case_reads_itself c k h n shape.Then d s f read = refl
  case_reads_itself c k h n shape.Else d s f read = refl
  case_reads_itself c k h n shape.Unpaired d s f read = absurd (true≢false (sym read ∙ f))
  case_reads_itself c k h n (shape.Leaf l) d s f read = absurd (true≢false (sym (ap has_no_shape s.0) ∙ n))
  case_reads_itself c k h n shape.Unread d s f read = absurd (true≢false (sym (ap has_no_shape s) ∙ n))
  case_reads_itself c k h n x d s f read = absurd (true≢false (sym h ∙ ap is_conditional_name s.0))

  module _ (ms : Members) (P : Path) where
    pub node_fills : (k : Name) → is_conditional_name k ≡ true → has_no_shape (keyword_named o.world k) ≡ false → is_condition ms ≡ true → (p : Option (Part K R N)) (t : Option N) (a : Option Data)
        → IsNode p t → FillsPlace (λ x d. PartStands I answers (known_of ms) x (k, d) P) p a → FillsPlace (λ n d. StandsBy I answers n d (P // k)) t a
    node_fills k h n read None t None e s = subst (λ x. FillsPlace (λ n d. StandsBy I answers n d (P // k)) x None) (sym e) tt
    node_fills k h n read (Some p) t (Some d) e s = taken_stands I answers p.nodes.items t d (P // k) e
        (subst (λ r. StandAt I answers r p.nodes.items d (P // k)) (case_reads_itself (known_of ms) k h n p.shape d s.shape s.fits read) s.nodes)
    node_fills k h n read _ t _ e s = absurd s

    -- ---- `properties`

    declared_by : (x : Shape K R) (p : Part K R N) (t : Option (DeclaredNodes N)) (d : Data) → DeclaredBy x p t → IsShape o (codes "properties") d x
        → StandAt I answers (reads_of x) p.nodes.items d (P // codes "properties") → FillsPlace (λ y. DeclaredStand I answers y (P // codes "properties")) t (Some d)
    declared_by (shape.Properties names) p t d e s h = subst (λ x. FillsPlace (λ y. DeclaredStand I answers y (P // codes "properties")) x (Some d)) (sym e) (record { kind = s.1; names = s.2; nodes = h })
    declared_by (shape.Leaf l) p t d e s h = absurd (true≢false (sym (ap has_no_shape s.0)))
    declared_by shape.Unread p t d e s h = absurd (true≢false (sym (ap has_no_shape s)))
    declared_by shape.Unpaired p t d e s h = absurd (true≢false (sym s))
    declared_by shape.If p t d e s h = absurd (true≢false (ap (bytes_eq (codes "properties")) s))
    declared_by shape.Then p t d e s h = absurd (true≢false (ap (bytes_eq (codes "properties")) s))
    declared_by shape.Else p t d e s h = absurd (true≢false (ap (bytes_eq (codes "properties")) s))
    declared_by x p t d e s h = absurd (true≢false (ap (bytes_eq (codes "properties")) s.0))

    pub declared_fills : (p : Option (Part K R N)) (t : Option (DeclaredNodes N)) (a : Option Data) → IsDeclared p t
        → FillsPlace (λ x d. PartStands I answers (known_of ms) x (codes "properties", d) P) p a → FillsPlace (λ y. DeclaredStand I answers y (P // codes "properties")) t a
    declared_fills None t None e s = subst (λ x. FillsPlace (λ y. DeclaredStand I answers y (P // codes "properties")) x None) (sym e) tt
    declared_fills (Some p) t (Some d) e s = declared_by p.shape p t d e s.shape s.nodes
    declared_fills _ t _ e s = absurd s

    -- ---- `patternProperties`

    patterns_by : (x : Shape K R) (p : Part K R N) (t : Option (Patterns R N)) (d : Data) → PatternsBy o.answers (known_of ms) x p t → p.location ≡ P // codes "patternProperties"
        → IsShape o (codes "patternProperties") d x → StandAt I answers (reads_of x) p.nodes.items d (P // codes "patternProperties")
        → FillsPlace (λ y. PatternsStand I answers (known_of ms) y (P // codes "patternProperties")) t (Some d)
    patterns_by (shape.PatternProperties v) p (Some y) d e place s h = record {
      place = e.place ∙ place;
      kind = s.1;
      entries = subst (λ l. EntriesStand I answers l (members d) (P // codes "patternProperties")) (sym e.entries) (both_stand I answers v.items p.nodes.items (members d) (P // codes "patternProperties") s.2 h);
      names = e.names;
      table = e.table;
    }
    patterns_by (shape.PatternProperties v) p None d e place s h = absurd e
    patterns_by (shape.Leaf l) p t d e place s h = absurd (true≢false (sym (ap has_no_shape s.0)))
    patterns_by shape.Unread p t d e place s h = absurd (true≢false (sym (ap has_no_shape s)))
    patterns_by shape.Unpaired p t d e place s h = absurd (true≢false (sym s))
    patterns_by shape.If p t d e place s h = absurd (true≢false (ap (bytes_eq (codes "patternProperties")) s))
    patterns_by shape.Then p t d e place s h = absurd (true≢false (ap (bytes_eq (codes "patternProperties")) s))
    patterns_by shape.Else p t d e place s h = absurd (true≢false (ap (bytes_eq (codes "patternProperties")) s))
    patterns_by x p t d e place s h = absurd (true≢false (ap (bytes_eq (codes "patternProperties")) s.0))

    pub patterns_fill : (p : Option (Part K R N)) (t : Option (Patterns R N)) (a : Option Data) → IsPatterns o.answers (known_of ms) p t
        → FillsPlace (λ x d. PartStands I answers (known_of ms) x (codes "patternProperties", d) P) p a → FillsPlace (λ y. PatternsStand I answers (known_of ms) y (P // codes "patternProperties")) t a
    patterns_fill None t None e s = subst (λ x. FillsPlace (λ y. PatternsStand I answers (known_of ms) y (P // codes "patternProperties")) x None) (sym e) tt
    patterns_fill (Some p) t (Some d) e s = patterns_by p.shape p t d e s.place s.shape s.nodes
    patterns_fill _ t _ e s = absurd s

  -- ---- what is made

  pub restriction_takes : (x : Shape K R) → is_restriction_shape x ≡ true → takes_of x ≡ Some (codes "properties", codes "patternProperties")
  restriction_takes shape.AdditionalProperties e = refl
  restriction_takes shape.NoOthers e = refl
  restriction_takes x e = absurd (true≢false (sym e))

  pub if_takes : (x : Shape K R) → is_if_shape x ≡ true → takes_of x ≡ Some (codes "then", codes "else")
  if_takes shape.If e = refl
  if_takes x e = absurd (true≢false (sym e))

  if_read : (x : Shape K R) (c : Known) → is_if_shape x ≡ true → Fits o c x → c.condition ≡ true
  if_read shape.If c e f = f
  if_read x c e f = absurd (true≢false (sym e))

  module _ (x : Shape K R) {L : Path} (ns : List N) (t : TakenNeighbours R N) {P : Path} {q : Planned} {r : Option (KeywordOver K R N)}
      (make : MakesPart I answers x L ns t P q (option_to_list r)) (form : IsMade I answers x L ns t P q r) where
    -- where all that it takes stands there
    made_of : (ms : Members) (m : Name × Data) → L ≡ P // m.0 → IsShape o m.0 m.1 x → Fits o (known_of ms) x → StandAt I answers (reads_of x) ns m.1 L
        → (is_if_shape x ≡ true → CasesStand I answers t.cases ms P) → (is_restriction_shape x ≡ true → BesideStands I answers (known_of ms) t.beside ms P)
        → has_repeat (map (λ m. m.0) (listed ms)) ≡ false → IsMember ms m → q ≡ plan_of ms → is_taken q m.0 ≡ false → IsMadeOf I answers ms m P r
    made_of ms m place s f stand cases beside distinct found same untaken = record {
      means = subst (λ p. KeywordsMean I answers ms (option_to_list r) (claims (head p) (listed ms) m) (m ∷ []) P) same (make ms m place s f stand cases beside distinct found same untaken);
      chosen = chosen I answers ms P m.0 m.1 L place ns t x s f stand cases beside (subst (λ p. is_taken p m.0 ≡ false) same untaken) r (subst (λ p. IsMade I answers x L ns t P p r) same form);
    }

    -- a part that takes nothing
    pub makes_nothing : takes_of x ≡ None → (u : TakenNeighbours R N) → MakesTaking I answers x L ns u P q r
    makes_nothing none u ms m place s f stand fills distinct found same untaken = made_of ms m place s f stand
        (λ taking. absurd (true≢false (sym (ap is_some (if_takes x taking)) ∙ ap is_some none)))
        (λ taking. absurd (true≢false (sym (ap is_some (restriction_takes x taking)) ∙ ap is_some none))) distinct found same untaken

    -- one that takes what stands there
    pub makes_taking : MakesTaking I answers x L ns t P q r
    makes_taking ms m place s f stand taken = made_of ms m place s f stand (λ taking. taken.cases taking (if_read x (known_of ms) taking f)) taken.beside

  -- a leaf takes nothing
  pub makes_leaf_taking : {x : Shape K R} (l : K) {L : Path} (ns : List N) (u : TakenNeighbours R N) {P : Path} {q : Planned} → x ≡ shape.Leaf l → MakesTaking I answers x L ns u P q (Some (keyword.Leaf L l))
  makes_leaf_taking {x} l {L} ns u {P} {q} is =
      makes_nothing x ns nothing (part_of_alone I answers {L = L} {P = P} {ks = keyword.Leaf L l ∷ []} {p = q} ns nothing is (λ k d s. ap neighbours s.0) (makes_leaf I answers l L ns))
      (subst (λ y. IsMade I answers y L ns nothing P q (Some (keyword.Leaf L l))) (sym is) refl) (ap takes_of is) u
    where
      nothing : TakenNeighbours R N
      nothing = record { cases = record { then_schema = None; else_schema = None }; beside = record { properties = None; patterns = None } }

  -- ---- what a shape takes, by the object's plan

  abbrev taking : Bool → Bool → Name → Option (Name × Name)
  taking c r k = cond (c && bytes_eq (codes "if") k) (Some (codes "then", codes "else")) (cond (r && bytes_eq (codes "additionalProperties") k) (Some (codes "properties", codes "patternProperties")) None)

  takes_none : (c r a b : Bool) → (c && a) ≡ false → (r && b) ≡ false → {X : Type 0} (u v : X) → None ≡ cond {A = Option X} (c && a) (Some u) (cond (r && b) (Some v) None)
  takes_none c r a b e f {X} u v = λ i. cond {A = Option X} (sym e i) (Some u) (cond (sym f i) (Some v) None)

  away : (ms : Members) (k : Name) → bytes_eq (codes "if") k ≡ false → bytes_eq (codes "additionalProperties") k ≡ false → None ≡ takes (plan_of ms) k
  away ms k e f = takes_none (is_condition ms) (is_restricted ms) _ _ ((λ i. is_condition ms && e i) ∙ and-false (is_condition ms)) ((λ i. is_restricted ms && f i) ∙ and-false (is_restricted ms)) _ _

  at_name : (ms : Members) (n k : Name) → k ≡ n → bytes_eq (codes "if") n ≡ false → bytes_eq (codes "additionalProperties") n ≡ false → None ≡ takes (plan_of ms) k
  at_name ms n k s e f = away ms k (ap (bytes_eq (codes "if")) s ∙ e) (ap (bytes_eq (codes "additionalProperties")) s ∙ f)

  nameless : (ms : Members) (k : Name) → has_no_shape (keyword_named o.world k) ≡ true → None ≡ takes (plan_of ms) k
  nameless ms k s = away ms k (apart (codes "if") refl) (apart (codes "additionalProperties") refl)
    where
      apart : (n : Name) → not (has_no_shape (keyword_named o.world n)) ≡ true → bytes_eq n k ≡ false
      apart n e = apart_by (λ x. not (has_no_shape (keyword_named o.world x))) n k e (ap not s)

  takes_if : (ms : Members) (k : Name) → k ≡ codes "if" → is_condition ms ≡ true → Some (codes "then", codes "else") ≡ takes (plan_of ms) k
  takes_if ms k s read = λ i. taking (sym read i) (is_restricted ms) (sym s i)

  takes_beside : (ms : Members) (k : Name) → k ≡ codes "additionalProperties" → is_restricted ms ≡ true → Some (codes "properties", codes "patternProperties") ≡ takes (plan_of ms) k
  takes_beside ms k s restricted = by (is_condition ms) ∙ (λ i. taking (is_condition ms) (sym restricted i) (sym s i))
    where
      by : (c : Bool) → Some (codes "properties", codes "patternProperties") ≡ taking c true (codes "additionalProperties")
      by true = refl
      by false = refl

  module _ (ms : Members) where
    pub same_takes : (x : Shape K R) (k : Name) (d : Data) → IsShape o k d x → Fits o (known_of ms) x → lookup_name k (listed ms) ≡ Some d → takes_of x ≡ takes (plan_of ms) k
    same_takes shape.If k d s f found = takes_if ms k s f
    same_takes shape.Then k d s f found = at_name ms (codes "then") k s refl refl
    same_takes shape.Else k d s f found = at_name ms (codes "else") k s refl refl
    same_takes shape.Unpaired k d s f found = takes_none (is_condition ms) (is_restricted ms) _ _ (ap (λ c. c && bytes_eq (codes "if") k) f)
        ((λ i. is_restricted ms && apart_by (λ x. not (is_conditional_name x)) (codes "additionalProperties") k refl (ap not s) i) ∙ and-false (is_restricted ms)) _ _
    same_takes shape.AdditionalProperties k d s f found =
        takes_beside ms k s.0 (ap is_restriction (ap (λ n. lookup_name n (listed ms)) (sym s.0) ∙ found) ∙ (restriction_named I answers shape.AdditionalProperties k d s refl).1)
    same_takes shape.NoOthers k d s f found =
        takes_beside ms k s.0 (ap is_restriction (ap (λ n. lookup_name n (listed ms)) (sym s.0) ∙ found) ∙ (restriction_named I answers shape.NoOthers k d s refl).1)
    same_takes shape.AnyOthers k d s f found =
        let free = ap is_restriction (ap (λ n. lookup_name n (listed ms)) (sym s.0) ∙ found) ∙ true_allows d s.1 in
        takes_none (is_condition ms) (is_restricted ms) _ _ ((λ i. is_condition ms && bytes_eq (codes "if") (s.0 i)) ∙ and-false (is_condition ms))
        (ap (λ r. r && bytes_eq (codes "additionalProperties") k) free) _ _
    same_takes (shape.Leaf l) k d s f found = nameless ms k (ap has_no_shape s.0)
    same_takes shape.Unread k d s f found = nameless ms k (ap has_no_shape s)
    same_takes x k d s f found = at_name ms _ k s.0 refl refl

-- ---- what a keyword takes of its neighbours' parts, and what is counted for it

-- nothing is taken
abbrev pub nothing : {R N : Type 0} → TakenNeighbours R N
nothing = record { cases = record { then_schema = None; else_schema = None }; beside = record { properties = None; patterns = None } }

first_name : {x y a b : Name} → ◌≡◌ {A = Option (Name × Name)} (Some (x, y)) (Some (a, b)) → x ≡ a
first_name e = ap (λ (o : Option (Name × Name)). (unwrap_or {T = Name × Name} o ([], [])).0) e

second_name : {x y a b : Name} → ◌≡◌ {A = Option (Name × Name)} (Some (x, y)) (Some (a, b)) → y ≡ b
second_name e = ap (λ (o : Option (Name × Name)). (unwrap_or {T = Name × Name} o ([], [])).1) e

module _ {K R N : Type 0} {o : Kit K R} (I : StepsOf o) (answers : N → Answers) where
  entries_are_patterns : (ps : List (CompiledPattern R × N)) (es : List (Name × Data)) (L : Path) → EntriesStand I answers ps es L → ArePatterns o (patterns_of ps) es
  entries_are_patterns [] [] L h = tt
  entries_are_patterns (p ∷ ps) (e ∷ es) L h = (h.0.0, entries_are_patterns ps es L h.1)
  entries_are_patterns _ _ L h = absurd h

  module _ (ms : Members) (P : Path) where
    -- ---- what is counted for a neighbour after its part is built

    none_at : (k : Name) → ((d : Data) → later_cost I ms d (keyword_named o.world k) ≡ no_cost) → (a : Option Data) → all_later I ms (map (λ d. (k, d)) (option_to_list a)) ≡ no_cost
    none_at k h None = refl
    none_at k h (Some d) = sum_last _ ∙ h d

    -- each matcher is asked for each name
    part_asks : (x : Shape K R) (ns : List N) (d : Data) → IsShape o (codes "patternProperties") d x → StandAt I answers (reads_of x) ns d (P // codes "patternProperties")
        → length (known_of ms).declared * length (open_names o.world d) ≡ asks_by o.costs (known_of ms) x ns
    part_asks (shape.PatternProperties v) ns d s h = ap (λ n. length (known_of ms).declared * n)
        (sym (open_cost o (patterns_of (zip v.items ns)) (members d) (entries_are_patterns _ (members d) _ (both_stand I answers v.items ns (members d) (P // codes "patternProperties") s.2 h))))
    part_asks (shape.Leaf l) ns d s h = absurd (true≢false (sym (ap has_no_shape s.0)))
    part_asks shape.Unread ns d s h = absurd (true≢false (sym (ap has_no_shape s)))
    part_asks shape.Unpaired ns d s h = absurd (true≢false (sym s))
    part_asks shape.If ns d s h = absurd (true≢false (ap (bytes_eq (codes "patternProperties")) s))
    part_asks shape.Then ns d s h = absurd (true≢false (ap (bytes_eq (codes "patternProperties")) s))
    part_asks shape.Else ns d s h = absurd (true≢false (ap (bytes_eq (codes "patternProperties")) s))
    part_asks x ns d s h = absurd (true≢false (ap (bytes_eq (codes "patternProperties")) s.0))

    patterns_later : (q : Option (Part K R N)) (a : Option Data) → FillsPlace (λ x d. PartStands I answers (known_of ms) x (codes "patternProperties", d) P) q a
        → all_later I ms (map (λ d. (codes "patternProperties", d)) (option_to_list a)) ≡ asks (asks_of o.costs (known_of ms) q)
    patterns_later None None h = refl
    patterns_later (Some p) (Some d) h = sum_last _ ∙ ap asks (part_asks p.shape p.nodes.items d h.shape h.nodes)
    patterns_later _ _ h = absurd h

    -- for the first of two neighbours nothing, and for the second what its table asks
    first_later : {a b : Name} (x : Shape K R) → takes_of x ≡ Some (a, b) → all_later I ms (rows_at a ms) ≡ no_cost
    first_later shape.If e = subst (λ k. all_later I ms (rows_at k ms) ≡ no_cost) (first_name e) (none_at (codes "then") (λ d. refl) (lookup_name (codes "then") (listed ms)))
    first_later shape.AdditionalProperties e = subst (λ k. all_later I ms (rows_at k ms) ≡ no_cost) (first_name e) (none_at (codes "properties") (λ d. refl) (lookup_name (codes "properties") (listed ms)))
    first_later shape.NoOthers e = subst (λ k. all_later I ms (rows_at k ms) ≡ no_cost) (first_name e) (none_at (codes "properties") (λ d. refl) (lookup_name (codes "properties") (listed ms)))
    first_later x e = absurd (true≢false (sym (ap is_some e)))

    module _ {b : Name} {q : Option (Part K R N)} {m n : Counts} (h : IsNeighbour I answers ms q b P m n) where
      at_patterns : codes "patternProperties" ≡ b → all_later I ms (rows_at b ms) ≡ asks (asks_of o.costs (known_of ms) q)
      at_patterns e = subst (λ k. all_later I ms (rows_at k ms) ≡ asks (asks_of o.costs (known_of ms) q)) e
          (patterns_later q (lookup_name (codes "patternProperties") (listed ms)) (subst (λ k. FillsPlace (λ x d. PartStands I answers (known_of ms) x (k, d) P) q (lookup_name k (listed ms))) (sym e) h.stands))

      second_later : {a : Name} (x : Shape K R) → takes_of x ≡ Some (a, b) → all_later I ms (rows_at b ms) ≡ asks (asks_taken o.costs (known_of ms) x q)
      second_later shape.If e = subst (λ k. all_later I ms (rows_at k ms) ≡ no_cost) (second_name e) (none_at (codes "else") (λ d. refl) (lookup_name (codes "else") (listed ms)))
      second_later shape.AdditionalProperties e = at_patterns (second_name e)
      second_later shape.NoOthers e = at_patterns (second_name e)
      second_later x e = absurd (true≢false (sym (ap is_some e)))

    -- ---- what is taken stands there

    module _ {p q : Option (Part K R N)} {t : TakenNeighbours R N} where
      condition_stands : {a b : Name} {c m n : Counts} → ◌≡◌ {A = Option (Name × Name)} (Some (codes "then", codes "else")) (Some (a, b)) → IsNeighbour I answers ms p a P c m → IsNeighbour I answers ms q b P m n
          → IsNode p t.cases.then_schema × IsNode q t.cases.else_schema → TakenStands I answers ms shape.If P t
      condition_stands {c = c} {m} {n} e h k taken =
          let first = subst (λ x. IsNeighbour I answers ms p x P c m) (sym (first_name e)) h in
          let second = subst (λ x. IsNeighbour I answers ms q x P m n) (sym (second_name e)) k in
          record {
            cases = λ is read. (node_fills I answers ms P (codes "then") refl refl read p t.cases.then_schema _ taken.0 first.stands, node_fills I answers ms P (codes "else") refl refl read q t.cases.else_schema _ taken.1 second.stands);
            beside = λ is. absurd (true≢false (sym is));
          }

      others_stand : (x : Shape K R) {a b : Name} {c m n : Counts} → is_if_shape x ≡ false → ◌≡◌ {A = Option (Name × Name)} (Some (codes "properties", codes "patternProperties")) (Some (a, b)) → IsNeighbour I answers ms p a P c m
          → IsNeighbour I answers ms q b P m n → IsDeclared p t.beside.properties × IsPatterns o.answers (known_of ms) q t.beside.patterns → TakenStands I answers ms x P t
      others_stand x {c = c} {m} {n} apart e h k taken =
          let first = subst (λ y. IsNeighbour I answers ms p y P c m) (sym (first_name e)) h in
          let second = subst (λ y. IsNeighbour I answers ms q y P m n) (sym (second_name e)) k in
          record {
            cases = λ is. absurd (true≢false (sym is ∙ apart));
            beside = λ is. (declared_fills I answers ms P p t.beside.properties _ taken.0 first.stands, patterns_fill I answers ms P q t.beside.patterns _ taken.1 second.stands);
          }

      both_stand_taken : (x : Shape K R) {a b : Name} {c m n : Counts} → takes_of x ≡ Some (a, b) → IsNeighbour I answers ms p a P c m → IsNeighbour I answers ms q b P m n
          → TakenBy o.answers (known_of ms) x p q t → TakenStands I answers ms x P t
      both_stand_taken shape.If e h k taken = condition_stands e h k taken
      both_stand_taken shape.AdditionalProperties e h k taken = others_stand shape.AdditionalProperties refl e h k taken
      both_stand_taken shape.NoOthers e h k taken = others_stand shape.NoOthers refl e h k taken
      both_stand_taken x e h k taken = absurd (true≢false (sym (ap is_some e)))

module _ {K R N : Type 0} {o : Kit K R} {I : StepsOf o} {answers : N → Answers} {ms : Members} {P : Path} where
  pub takes_nothing : {x : Shape K R} {a : Counts} {t : TakenNeighbours R N} → takes_of x ≡ None → IsTaken I answers ms x P a a t
  takes_nothing {x} {a} none = record {
    stands = record {
      cases = λ is. absurd (true≢false (sym (ap is_some (if_takes I answers x is)) ∙ ap is_some none));
      beside = λ is. absurd (true≢false (sym (ap is_some (restriction_takes I answers x is)) ∙ ap is_some none));
    };
    clean = ap (λ t. all_malformed I ms P (rows_taken ms t)) none;
    spends = subst (λ t. Spends a a (all_cost I ms (rows_taken ms t))) (sym none) (spends_nothing a);
  }

  module _ (x : Shape K R) {a b : Name} (e : takes_of x ≡ Some (a, b)) {p q : Option (Part K R N)} {c m n z : Counts} (h : IsNeighbour I answers ms p a P c m) (k : IsNeighbour I answers ms q b P m n) where
    pub both_taken : {t : TakenNeighbours R N} {known : Known} → known ≡ known_of ms → TakenBy o.answers known x p q t → z ≡ count_asks (asks_taken o.costs known x q) n → IsTaken I answers ms x P c z t
    both_taken {t} same taken asked = record {
      stands = both_stand_taken I answers ms P x e h k (subst (λ w. TakenBy o.answers w x p q t) same taken);
      clean = ap (λ t. all_malformed I ms P (rows_taken ms t)) e ∙ flat_map-append (wrong I ms P) (rows_at a ms) (rows_at b ms) ∙ (λ i. h.clean i ++ k.clean i);
      spends = subst (λ t. Spends c z (all_cost I ms (rows_taken ms t))) (sym e) (both_spent I ms P (rows_at a ms) (rows_at b ms) c m z
          (nothing_later h.spends (first_later I answers ms P x e))
          (later_spent k.spends (second_later I answers ms P k x e) (spends_asks _ _ n z (ap (λ w. asks_taken o.costs w x q) same) asked)));
    }

    pub taking_memory : {known : Known} → known ≡ known_of ms → AsksAtMost (asks_taken o.costs known x q) n z → {w : AllocError} (r : BuildError) → r ≡ Memory w → RefusesTaken I ms (takes_of x) P c z r
    taking_memory same asked r s = subst (λ t. RefusesTaken I ms t P c z r) (sym e) (refuses_memory (within_same (sym (total_cost-append (costs I ms P) (rows_at a ms) (rows_at b ms)))
        (within_append (before_within h.spends) (later_within k.spends (second_later I answers ms P k x e) (within_asks _ _ n z (ap (λ w. asks_taken o.costs w x q) same) asked)))) r s)
