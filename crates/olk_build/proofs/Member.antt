-- A member with the neighbours that it takes, and the keywords so far of a schema object.
use Rattle.std.proofs.Common.{◌≡◌, ◌+◌, ◌&&◌, ◌||◌, Bool, true, false, cond, List, [], ◌∷◌, ◌++◌, codes, bytes_eq, Some, None, IsPermutation, ◌*◌, length, not, map, Option, is_some, is_none}
use Rattle.std.proofs.Common.{option_to_list, Result, Ok, Err, IfOk, IfErr, Contains, refl, sym, ◌∙◌, ap, subst, arith, append-nil, append_assoc, true≢false, subst₂}
use Rattle.std.proofs.lemmas.List.Sorted.{IsPermutation-refl, IsPermutation-trans, IsPermutation-append, Contains-permutation, IsPermutation-append_right, IsPermutation-append_left}
use Rattle.std.proofs.lemmas.List.Sorted.{IsPermutation-append_comm, length_permutation}
use Rattle.serde_json.specs.Data.{Data, Members}
use Rattle.olk_spec.specs.Names.{Name, lookup_name, is_among, filter_once, Path, ◌//◌, put_if}
use Rattle.olk_spec.specs.Costs.{Cost, ◌⊕◌, total_cost, no_cost}
use Rattle.olk_spec.proofs.CostSums.{sum_around, sum_last, sum_turned}
use Rattle.olk_spec.proofs.Each.{Each, Each-implies}
use Rattle.olk_spec.proofs.Order.{along_permutation}
use Rattle.olk_spec.proofs.Truth.{and_first, and_second}
use Rattle.olk_spec.proofs.Walks.{same_name, bytes_eq-sym, Distinct-from, Each-found}
use Rattle.olk_meaning.specs.AdditionalProperties.{rows_at, declared_beside}
use Rattle.olk_meaning.specs.Conditions.{is_condition, is_restricted, Known, known_of, IsKnown}
use Rattle.olk_meaning.specs.Plans.{Planned, is_case, tells_members, head, claims, plan_of}
use Rattle.olk_meaning.proofs.Claims.{members_named, members_found, named_once, claims_condition, condition_there as if_there, head_of_restriction, restriction_there, apart_by, claims_no_case}
use Rattle.olk_meaning.proofs.Claims.{claims_no_properties, claims_no_patterns, absent_if, heads_there}
use Rattle.olk_meaning.proofs.Listed.{names_of, claims_are_all, those_none, filter_once-same, lookup_among, named_first, found_each}
use Rattle.olk_build.specs.Standing.{is_taken, which, Covers, StandAt, all_malformed}
use Rattle.olk_build.specs.Taking.{rows_taken, rows_read, takes, takes_of, RefusesTaken, IsTaken, MakesTaking, MemberIsBuilt, RefusesMember, GivesMember, Gives}
use Rattle.olk_spec.specs.Vocabulary.{Keyword, pattern_properties, keyword_named}
use Rattle.olk_spec.proofs.Named.{Named, named as is_named}
use Rattle.olk_meaning.specs.Members.{member_child, member_standing}
use Rattle.olk_meaning.proofs.Standing.{properties_stand_elsewhere, patterns_stand_elsewhere}
use Rattle.olk_meaning.specs.PatternProperties.{open_names, names_asked}
use Rattle.olk_meaning.proofs.Restriction.{properties_show_none, patterns_show_none}
use Rattle.olk_build.specs.Reading.{reads_of}
use Rattle.olk_build.specs.Refusing.{Spends, Refuses}
use Rattle.olk_build.proofs.Spending.{spends_nothing, refuses_among, refuses_memory, within_exactly, within_nothing, spends_same, within_same, tells, SoFar, none_so_far, all_so_far, memory_so_far}
use Rattle.olk_build.proofs.Spending.{refused_so_far, one_more_so_far}
use Rattle.olk_build.specs.Chooser.{has_no_validator, HasForm, IsChosen, HaveForms, AreChosen}
use Rattle.olk_build.proofs.Together.{no_keywords_mean, one_more_keyword, heads_mean_all}
use Rattle.olk_build.specs.Building.{IsMember, RefusesPart, later_cost, ObjectIsBuilt, RefusesObject, all_cost, PartsAreBuilt, IsPart}
use Rattle.olk_build.proofs.Held.{unrestricted_if_untaken}
use Rattle.olk_build.proofs.TakenParts.{same_takes, wrong, costs, there_known, nothing_later, first_refused, second_refused, both_spent, nothing, takes_nothing}
use Rattle.std.specs.{List.flat_map, Result.result_transpose, declared.alloc.AllocError.AllocError}
use Rattle.olk_spec.specs.{Schemas.listed, Malformed.has_repeat, Faults.Fault}
use Rattle.olk_meaning.proofs.{Rows.Rows, Conditions.restricted_read}
use Rattle.olk_meaning.proofs.Facts.{flat_map-flat_map, total_cost-flat_map}
use Rattle.std.proofs.{lemmas.Grind.flat_map-append, lemmas.Slice.Zip.all_zipped_more, lemmas.List.nil_from_length}
use Rattle.olk_base.specs.{Count.Counts, Kit.Kit}
use Rattle.olk_reports.specs.{declared.error.BuildError.BuildError, declared.error.BuildError.TheVariants.Memory}
use Rattle.olk_tree.specs.{Answers.Answers, declared.node.KeywordOver.KeywordOver}
use Rattle.olk_build.specs.{declared.part.Part.Part, declared.part.TakenNeighbours.TakenNeighbours, Making.KeywordsMean}
use Rattle.olk_tree.specs.Steps.{StepsOf}

-- ---- in another order

module _ {X : Type 0} (c : X → Cost) where
  turned : (x y : X) (xs : List X) → total_cost c (x ∷ y ∷ xs) ≡ total_cost c (y ∷ x ∷ xs)
  turned x y xs = sym (sum_around (c x) (c y) _) ∙ ap (λ z. z ⊕ total_cost c xs) (sum_turned (c x) (c y)) ∙ sum_around (c y) (c x) _

  pub total_cost-permuted : (xs ys : List X) → IsPermutation xs ys → total_cost c xs ≡ total_cost c ys
  total_cost-permuted = along_permutation (λ xs ys. total_cost c xs ≡ total_cost c ys) (λ xs. refl) (λ x xs ys h. ap (λ z. c x ⊕ z) h) turned (λ xs ys zs h k. h ∙ k)

flat_map-permuted : {X Y : Type 0} (f g : X → List Y) (xs : List X) → Each (λ x. IsPermutation (f x) (g x)) xs → IsPermutation (flat_map f xs) (flat_map g xs)
flat_map-permuted f g [] h = IsPermutation-refl []
flat_map-permuted f g (x ∷ xs) h = IsPermutation-append _ _ _ _ h.0 (flat_map-permuted f g xs h.1)

-- ---- what a plan takes

-- a plan that fuses nothing
abbrev unfused : Bool → Bool → Planned
unfused c r = record { fused_pair = None; condition = c; restricted = r; fused_one = None }

-- a name that is taken is the head of none
taken_heads_none : (c r : Bool) (k : Name) → is_taken (unfused c r) k ≡ true → (n : Name) → bytes_eq k (head (unfused c r) n) ≡ false
taken_heads_none c r k taken n = by (r && tells_members n) (c && is_case n) refl refl
  where
    stays : (a b : Bool) → ((a && false) || (b && false)) ≡ false
    stays true true = refl
    stays true false = refl
    stays false true = refl
    stays false false = refl

    by : (a b : Bool) → (r && tells_members n) ≡ a → (c && is_case n) ≡ b → bytes_eq k (cond (a || false) (codes "additionalProperties") (cond b (codes "if") n)) ≡ false
    by true b i j = apart_by (is_taken (unfused c r)) k (codes "additionalProperties") taken (stays r c)
    by false true i j = apart_by (is_taken (unfused c r)) k (codes "if") taken (stays r c)
    by false false i j = apart_by (is_taken (unfused c r)) k n taken (λ x. i x || j x)

-- one that neither is taken nor takes any is its own head, and that of no other
head_alone : (c r : Bool) (k : Name) → is_taken (unfused c r) k ≡ false → (c && bytes_eq (codes "if") k) ≡ false → (r && bytes_eq (codes "additionalProperties") k) ≡ false
    → (n : Name) → bytes_eq k (head (unfused c r) n) ≡ bytes_eq k n
head_alone c r k stays e f n = by (r && tells_members n) (c && is_case n) refl refl
  where
    apart : is_taken (unfused c r) n ≡ true → false ≡ bytes_eq k n
    apart h = sym (bytes_eq-sym k n ∙ apart_by (is_taken (unfused c r)) n k h stays)

    other : (b : Bool) (t : Bool) (m : Name) → (b && t) ≡ true → (b && bytes_eq m k) ≡ false → bytes_eq k m ≡ false
    other true t m h q = bytes_eq-sym k m ∙ q
    other false t m h q = absurd (true≢false (sym h))

    by : (a b : Bool) → (r && tells_members n) ≡ a → (c && is_case n) ≡ b → bytes_eq k (cond (a || false) (codes "additionalProperties") (cond b (codes "if") n)) ≡ bytes_eq k n
    by true b i j = other r (tells_members n) (codes "additionalProperties") i f ∙ apart (λ x. i x || (c && is_case n))
    by false true i j = other c (is_case n) (codes "if") j e ∙ apart (λ x. i x || j x)
    by false false i j = refl

module _ (ms : Members) (distinct : has_repeat (names_of (listed ms)) ≡ false) where
  abbrev plan : Planned
  plan = unfused (is_condition ms) (is_restricted ms)

  condition_there : is_condition ms ≡ true → is_among (codes "if") (names_of (listed ms)) ≡ true
  condition_there e = let i = if_there ms e in lookup_among (codes "if") i.0 (listed ms) i.1

  head_there : (x : Name × Data) → lookup_name x.0 (listed ms) ≡ Some x.1 → is_among (head plan x.0) (names_of (listed ms)) ≡ true
  head_there x there = by (is_restricted ms) (is_condition ms) refl refl (tells_members x.0) (is_case x.0)
    where
      itself : is_among x.0 (names_of (listed ms)) ≡ true
      itself = lookup_among x.0 x.1 (listed ms) there

      by : (r c : Bool) → is_restricted ms ≡ r → is_condition ms ≡ c → (a b : Bool)
          → is_among (cond ((r && a) || false) (codes "additionalProperties") (cond (c && b) (codes "if") x.0)) (names_of (listed ms)) ≡ true
      by true c i j true b = let r = restriction_there ms i in lookup_among (codes "additionalProperties") r.0 (listed ms) r.1
      by true true i j false true = condition_there j
      by false true i j a true = condition_there j
      by true true i j false false = itself
      by true false i j false b = itself
      by false true i j a false = itself
      by false false i j a b = itself

  group_heads_there : Each (λ x. is_among (head plan x.0) (names_of (listed ms)) ≡ true) (listed ms)
  group_heads_there = Each-implies (λ x. lookup_name x.0 (listed ms) ≡ Some x.1) _ head_there (listed ms) (Each-found (listed ms) (Distinct-from (listed ms) distinct))

  -- ---- what a member is read with is what it is the head of

  abbrev group : Name × Data → Rows
  group m = claims (head plan) (listed ms) m

  of_taken : (m : Name × Data) → is_taken plan m.0 ≡ true → group m ≡ []
  of_taken m taken = filter_once-same _ (λ x. false) (λ x. taken_heads_none (is_condition ms) (is_restricted ms) m.0 taken x.0) (listed ms) ∙ those_none (listed ms)

  of_alone : (m : Name × Data) → lookup_name m.0 (listed ms) ≡ Some m.1 → is_taken plan m.0 ≡ false → (is_condition ms && bytes_eq (codes "if") m.0) ≡ false
      → (is_restricted ms && bytes_eq (codes "additionalProperties") m.0) ≡ false → group m ≡ m ∷ []
  of_alone m there stays e f =
      filter_once-same _ _ (λ x. head_alone (is_condition ms) (is_restricted ms) m.0 stays e f x.0) (listed ms) ∙ named_once m.0 m.1 (listed ms) (Distinct-from (listed ms) distinct) there

  of_condition : (d : Data) → is_condition ms ≡ true → lookup_name (codes "if") (listed ms) ≡ Some d
      → IsPermutation ((codes "if", d) ∷ (rows_at (codes "then") ms ++ rows_at (codes "else") ms)) (group (codes "if", d))
  of_condition d read there = subst (λ l. IsPermutation ((codes "if", d) ∷ l) (group (codes "if", d))) (λ i. members_found ms distinct (codes "then") _ refl i ++ members_found ms distinct (codes "else") _ refl i)
      (claims_condition ms distinct plan read d there)

  of_restriction : (d : Data) → is_restricted ms ≡ true → lookup_name (codes "additionalProperties") (listed ms) ≡ Some d
      → IsPermutation ((codes "additionalProperties", d) ∷ (rows_at (codes "properties") ms ++ rows_at (codes "patternProperties") ms)) (group (codes "additionalProperties", d))
  of_restriction d restricted there = subst₂ IsPermutation
      (λ i. named_once (codes "additionalProperties") d (listed ms) (Distinct-from (listed ms) distinct) there i
      ++ (members_found ms distinct (codes "properties") _ refl i ++ last i))
      (filter_once-same _ _ (λ x. sym (head_of_restriction plan restricted refl x.0)) (listed ms))
      split
    where
      last : members_named (codes "patternProperties") (listed ms) ++ filter_once (λ x. false) (listed ms) ≡ rows_at (codes "patternProperties") ms
      last = (λ i. members_found ms distinct (codes "patternProperties") _ refl i ++ those_none (listed ms) i) ∙ append-nil _

      split : IsPermutation (members_named (codes "additionalProperties") (listed ms)
          ++ (members_named (codes "properties") (listed ms) ++ (members_named (codes "patternProperties") (listed ms) ++ filter_once (λ x. false) (listed ms))))
          (filter_once (λ x. bytes_eq (codes "additionalProperties") x.0 || (bytes_eq (codes "properties") x.0 || (bytes_eq (codes "patternProperties") x.0 || false))) (listed ms))
      split = named_first (listed ms) (codes "additionalProperties") (λ n. bytes_eq (codes "properties") n || (bytes_eq (codes "patternProperties") n || false)) refl
          (named_first (listed ms) (codes "properties") (λ n. bytes_eq (codes "patternProperties") n || false) refl (named_first (listed ms) (codes "patternProperties") (λ n. false) refl (IsPermutation-refl _)))

  read_as_grouped : (m : Name × Data) → lookup_name m.0 (listed ms) ≡ Some m.1 → IsPermutation (rows_read ms m) (group m)
  read_as_grouped m there = by (is_taken plan m.0) (is_condition ms && bytes_eq (codes "if") m.0) (is_restricted ms && bytes_eq (codes "additionalProperties") m.0) refl refl refl
    where
      by : (t a b : Bool) → is_taken plan m.0 ≡ t → (is_condition ms && bytes_eq (codes "if") m.0) ≡ a → (is_restricted ms && bytes_eq (codes "additionalProperties") m.0) ≡ b
          → IsPermutation (cond t [] (m ∷ rows_taken ms (cond a (Some (codes "then", codes "else")) (cond b (Some (codes "properties", codes "patternProperties")) None)))) (group m)
      by true a b q i j = subst (λ l. IsPermutation [] l) (sym (of_taken m q)) (IsPermutation-refl [])
      by false false false q i j = subst (λ l. IsPermutation (m ∷ []) l) (sym (of_alone m there q i j)) (IsPermutation-refl (m ∷ []))
      by false true b q i j =
          let n = same_name (codes "if") m.0 (and_second (is_condition ms) _ i) in
          subst (λ k. IsPermutation ((k, m.1) ∷ (rows_at (codes "then") ms ++ rows_at (codes "else") ms)) (group (k, m.1))) n
          (of_condition m.1 (and_first _ _ i) (ap (λ k. lookup_name k (listed ms)) n ∙ there))
      by false false true q i j =
          let n = same_name (codes "additionalProperties") m.0 (and_second (is_restricted ms) _ j) in
          subst (λ k. IsPermutation ((k, m.1) ∷ (rows_at (codes "properties") ms ++ rows_at (codes "patternProperties") ms)) (group (k, m.1))) n
          (of_restriction m.1 (and_first _ _ j) (ap (λ k. lookup_name k (listed ms)) n ∙ there))

  -- what is read for all members are all members
  pub rows_read_are_all : IsPermutation (flat_map (rows_read ms) (listed ms)) (listed ms)
  rows_read_are_all = IsPermutation-trans _ _ _ (flat_map-permuted (rows_read ms) group (listed ms)
      (Each-implies (λ x. lookup_name x.0 (listed ms) ≡ Some x.1) _ read_as_grouped (listed ms) (Each-found (listed ms) (Distinct-from (listed ms) distinct))))
      (claims_are_all (head plan) (listed ms) distinct group_heads_there)

-- ---- the validators of some members, and of one more

module _ (ms : Members) (named : Name → Keyword) where
  abbrev has_own : Name × Data → Bool
  has_own m = not (has_no_validator ms (named m.0) m.1)

  those-behind : (es : Rows) (m : Name × Data) → filter_once has_own (es ++ m ∷ []) ≡ filter_once has_own es ++ put_if (has_own m) m []
  those-behind [] m = refl
  those-behind (e ∷ es) m = by (has_own e) (those-behind es m)
    where
      by : (b : Bool) → filter_once has_own (es ++ m ∷ []) ≡ filter_once has_own es ++ put_if (has_own m) m []
          → put_if b e (filter_once has_own (es ++ m ∷ [])) ≡ put_if b e (filter_once has_own es) ++ put_if (has_own m) m []
      by true h = ap (λ l. e ∷ l) h
      by false h = h

module _ {K R N : Type 0} (ms : Members) (P : Path) (named : Name → Keyword) where
  pub one_more_chosen : (m : Name × Data) (r : Option (KeywordOver K R N)) → IsChosen ms P (named m.0) m r → (es : Rows) (ks : List (KeywordOver K R N)) → AreChosen ms P named es ks
      → AreChosen ms P named (es ++ m ∷ []) (ks ++ option_to_list r)
  one_more_chosen m None c es ks h =
      subst (λ l. HaveForms ms P named l (ks ++ [])) (sym (those-behind ms named es m ∙ ap (λ b. filter_once (has_own ms named) es ++ put_if (not b) m []) c))
      (subst (λ T. T) (λ i. HaveForms ms P named (sym (append-nil (filter_once (has_own ms named) es)) i) (sym (append-nil ks) i)) h)
  one_more_chosen m (Some x) c es ks h =
      subst (λ l. HaveForms ms P named l (ks ++ x ∷ [])) (sym (those-behind ms named es m ∙ ap (λ b. filter_once (has_own ms named) es ++ put_if (not b) m []) c.0))
      (all_zipped_more (λ m x. HasForm ms P (named m.0) m.0 m.1 x) (filter_once (has_own ms named) es) ks m x h c.1)

-- ---- where another keyword takes what a member holds, it claims nothing, shows nothing and has no validator

module _ {K R : Type 0} {o : Kit K R} (I : StepsOf o) (ms : Members) (P : Path) (m : Name × Data) (taken : is_taken (plan_of ms) m.0 ≡ true) where
  -- what holds of each of the four names where it is taken holds of the member's
  of_each_taken : (G : Name → Type 0) → (is_restricted ms ≡ true → G (codes "properties")) → (is_restricted ms ≡ true → G (codes "patternProperties"))
      → (is_condition ms ≡ true → G (codes "then")) → (is_condition ms ≡ true → G (codes "else")) → G m.0
  of_each_taken G w x y z =
      by (is_restricted ms) (bytes_eq m.0 (codes "properties")) (bytes_eq m.0 (codes "patternProperties")) (is_condition ms) (bytes_eq m.0 (codes "then"))
      (bytes_eq m.0 (codes "else")) refl refl refl refl refl refl taken
    where
      at : (n : Name) → bytes_eq m.0 n ≡ true → G n → G m.0
      at n e g = subst G (sym (same_name m.0 n e)) g

      by : (r a b c t e : Bool) → is_restricted ms ≡ r → bytes_eq m.0 (codes "properties") ≡ a → bytes_eq m.0 (codes "patternProperties") ≡ b
          → is_condition ms ≡ c → bytes_eq m.0 (codes "then") ≡ t → bytes_eq m.0 (codes "else") ≡ e → ((r && (a || (b || false))) || (c && (t || (e || false)))) ≡ true
          → G m.0
      by true true b c t e q i j r k l h = at _ i (w q)
      by true false true c t e q i j r k l h = at _ j (x q)
      by true false false true true e q i j r k l h = at _ k (y r)
      by true false false true false true q i j r k l h = at _ l (z r)
      by false a b true true e q i j r k l h = at _ k (y r)
      by false a b true false true q i j r k l h = at _ l (z r)
      by _ _ _ _ _ _ q i j r k l h = absurd (true≢false (sym h))

  taken_claims_none : claims (head (plan_of ms)) (listed ms) m ≡ []
  taken_claims_none = of_each_taken (λ k. claims (head (plan_of ms)) (listed ms) (k, m.1) ≡ []) (λ r. claims_no_properties ms r (listed ms) m.1)
      (λ r. claims_no_patterns ms r (listed ms) m.1) (λ c. claims_no_case (plan_of ms) c (listed ms) (codes "then", m.1) refl) (λ c. claims_no_case (plan_of ms) c (listed ms) (codes "else", m.1) refl)

  taken_shows_none : (u : Bool) (v : Data) (Q : Path) → member_child I.steps ms m (which o ms m) u v P Q ≡ []
  taken_shows_none u v Q = of_each_taken (λ k. member_child I.steps ms (k, m.1) (which o ms (k, m.1)) u v P Q ≡ [])
      (λ r. properties_show_none I.steps ms u v P Q m.1 r) (λ r. patterns_show_none I.steps ms u v P Q m.1 r) (λ c. refl) (λ c. refl)

  taken_stands_nowhere : member_standing I.steps ms m (which o ms m) P ≡ []
  taken_stands_nowhere = of_each_taken (λ k. member_standing I.steps ms (k, m.1) (which o ms (k, m.1)) P ≡ [])
      (λ r. properties_stand_elsewhere I.steps ms P m.1 (restricted_read I.steps.stands ms ∙ r))
      (λ r. patterns_stand_elsewhere I.steps ms P m.1 (restricted_read I.steps.stands ms ∙ r)) (λ c. refl) (λ c. refl)

  taken_has_none : has_no_validator ms (which o ms m) m.1 ≡ true
  taken_has_none = of_each_taken (λ k. has_no_validator ms (which o ms (k, m.1)) m.1 ≡ true) (λ r. r) (λ r. r) (λ c. refl) (λ c. refl)

-- ---- one member

-- for a member that is not taken nothing is counted later
module _ {K R N : Type 0} {o : Kit K R} (I : StepsOf o) (answers : N → Answers) (ms : Members) (k : Name) (d : Data) (untaken : is_taken (plan_of ms) k ≡ false) where
  none_later : later_cost I ms d (keyword_named o.world k) ≡ no_cost
  none_later = by (keyword_named o.world k) (is_named k o.world)
    where
      no_name : (b : Bool) → b ≡ false → names_asked o.world (cond b (declared_beside ms) []) d ≡ no_cost
      no_name true e = absurd (true≢false e)
      no_name false e = ap (λ n. record no_cost { table_asks = n }) none
        where
          none : 0 * length (open_names o.world d) ≡ 0
          none = omega arith

      by : (w : Keyword) → Named k w → later_cost I ms d w ≡ no_cost
      by pattern_properties n = no_name (is_restricted ms) (unrestricted_if_untaken I answers (plan_of ms) k (ap tells_members n) untaken)
      by w n = refl

module _ {K R N : Type 0} {o : Kit K R} (I : StepsOf o) (answers : N → Answers) (ms : Members) (P : Path) (k : Name) (d : Data) (b : Counts) where
  -- it is taken by another
  pub taken_built : is_taken (plan_of ms) k ≡ true → MemberIsBuilt I ms (k, d) P b b answers None
  taken_built taken = record {
    made = record {
      means = record {
        covers = subst (λ rows. Covers I answers ms [] rows P) (sym (taken_claims_none I ms P (k, d) taken)) (no_keywords_mean I answers ms P [] refl).covers;
        shows = λ clean u v Q. sym (append-nil _ ∙ taken_shows_none I ms P (k, d) taken u v Q);
        formed = refl;
        forms = λ clean. sym (append-nil _ ∙ taken_stands_nowhere I ms P (k, d) taken);
      };
      chosen = taken_has_none I ms P (k, d) taken;
    };
    clean = ap (λ x. flat_map (wrong I ms P) (cond x [] ((k, d) ∷ rows_taken ms (takes (plan_of ms) k)))) taken;
    spends = subst (λ x. Spends b b (total_cost (costs I ms P) (cond x [] ((k, d) ∷ rows_taken ms (takes (plan_of ms) k))))) (sym taken) (spends_nothing b);
  }

  -- nothing is read yet
  pub unread_memory : {w : AllocError} (r : BuildError) → r ≡ Memory w → RefusesMember I ms (k, d) P b b r
  unread_memory r x = refuses_memory within_nothing r x

  -- it stays, and is read with what it takes
  module _ (untaken : is_taken (plan_of ms) k ≡ false) (found : IsMember ms (k, d)) where
    abbrev rows : Rows
    rows = (k, d) ∷ rows_taken ms (takes (plan_of ms) k)

    read_here : rows_read ms (k, d) ≡ rows
    read_here = ap (λ x. cond x [] rows) untaken

    refused_here : {c : Counts} {r : BuildError} → Refuses (flat_map (wrong I ms P) rows) (total_cost (costs I ms P) rows) b c r → RefusesMember I ms (k, d) P b c r
    refused_here {c} {r} w = subst (λ l. Refuses (flat_map (wrong I ms P) l) (total_cost (costs I ms P) l) b c r) (sym read_here) w

    module _ {c : Known} (known : c ≡ known_of ms) {L : Path} (place : L ≡ P // k) {n : Name} (same : n ≡ k) where
      pub part_refused : {z : Counts} {r : BuildError} → RefusesPart I c n d L b z r → RefusesMember I ms (k, d) P b z r
      part_refused {z} {r} w = refused_here (first_refused I ms P ((k, d) ∷ []) (rows_taken ms (takes (plan_of ms) k))
          (refuses_among (wrong I ms P) (costs I ms P) ((k, d) ∷ []) b z [] (k, d) [] b r refl (spends_nothing b)
          (subst (λ i. RefusesPart I c i d L b z r) same w ms P place (subst (λ x. IsKnown x ms k) (sym known) (there_known I ms P k d found)))))

      module _ {part : Part K R N} {y : Counts} (built : IsPart I answers part c n d L b y) where
        part_here : PartsAreBuilt I answers ms (part ∷ []) ((k, d) ∷ []) P b y
        part_here = subst (λ i. IsPart I answers part c i d L b y) same built ms P place (subst (λ x. IsKnown x ms k) (sym known) (there_known I ms P k d found))

        same_rows : takes_of part.shape ≡ takes (plan_of ms) k
        same_rows = same_takes I answers ms part.shape k d part_here.stand.0.shape part_here.stand.0.fits found

        -- no other member's names are asked for it
        part_spent : Spends b y (total_cost (costs I ms P) ((k, d) ∷ []))
        part_spent = nothing_later part_here.spends (sum_last _ ∙ none_later I answers ms k d untaken)

        pub taken_refused : {z : Counts} {r : BuildError} → RefusesTaken I ms (takes_of part.shape) P y z r → RefusesMember I ms (k, d) P b z r
        taken_refused {z} {r} w = refused_here (second_refused I ms P ((k, d) ∷ []) (rows_taken ms (takes (plan_of ms) k)) y (within_exactly part_spent)
            (subst (λ t. RefusesTaken I ms t P y z r) same_rows w))

        module _ {t : TakenNeighbours R N} {z : Counts} (taken : IsTaken I answers ms part.shape P y z t) where
          spent : Spends b z (total_cost (costs I ms P) rows)
          spent = both_spent I ms P ((k, d) ∷ []) (rows_taken ms (takes (plan_of ms) k)) b y z part_spent (subst (λ t. Spends y z (total_cost (costs I ms P) (rows_taken ms t))) same_rows taken.spends)

          pub read_memory : {w : AllocError} (r : BuildError) → r ≡ Memory w → RefusesMember I ms (k, d) P b z r
          read_memory r x = refused_here (refuses_memory (within_exactly spent) r x)

          pub member_built : {q : Planned} {r : Option (KeywordOver K R N)} → has_repeat (map (λ m. m.0) (listed ms)) ≡ false → q ≡ plan_of ms
              → MakesTaking I answers part.shape part.location part.nodes.items t P q r → MemberIsBuilt I ms (k, d) P b z answers r
          member_built {q} distinct plan makes =
              let s = part_here.stand.0 in
              record {
                made = makes ms (k, d) s.place s.shape s.fits (subst (λ l. StandAt I answers (reads_of part.shape) part.nodes.items d l) (sym s.place) s.nodes) taken.stands distinct found plan (ap (λ p. is_taken p k) plan ∙ untaken);
                clean = ap (flat_map (wrong I ms P)) read_here ∙ flat_map-append (wrong I ms P) ((k, d) ∷ []) (rows_taken ms (takes (plan_of ms) k)) ∙ (λ i. part_here.clean i ++ (ap (λ t. flat_map (wrong I ms P) (rows_taken ms t)) (sym same_rows) ∙ taken.clean) i);
                spends = subst (λ l. Spends b z (total_cost (costs I ms P) l)) (sym read_here) spent;
              }

        -- one that takes nothing
        module _ {any : Bool} (is : any ≡ is_some (takes_of part.shape)) (no : any ≡ false) where
          takes_none : takes_of part.shape ≡ None
          takes_none = absent_if (takes_of part.shape) (sym is ∙ no)

          none_here : IsTaken I answers ms part.shape P y y nothing
          none_here = takes_nothing takes_none

          pub alone_memory : {w : AllocError} (r : BuildError) → r ≡ Memory w → RefusesMember I ms (k, d) P b y r
          alone_memory r x = read_memory none_here r x

          pub alone_built : {q : Planned} {r : Option (KeywordOver K R N)} → has_repeat (map (λ m. m.0) (listed ms)) ≡ false → q ≡ plan_of ms
              → (takes_of part.shape ≡ None → (t : TakenNeighbours R N) → MakesTaking I answers part.shape part.location part.nodes.items t P q r) → MemberIsBuilt I ms (k, d) P b y answers r
          alone_built distinct plan makes = member_built none_here distinct plan (makes takes_none nothing)

-- ---- what is given of it

module _ {K R N : Type 0} {o : Kit K R} (I : StepsOf o) (answers : N → Answers) (ms : Members) (m : Name × Data) (P : Path) (a b : Counts) where
  abbrev Built : Result (Option (KeywordOver K R N)) BuildError → Type 0
  Built r = IsMember ms m → IfOk r (MemberIsBuilt I ms m P a b answers)

  pub gives_member : (r : Result (Option (KeywordOver K R N)) BuildError) → Built r → (IsMember ms m → IfErr r (RefusesMember I ms m P a b)) → GivesMember I ms m P a b answers (result_transpose r)
  gives_member (Ok (Some x)) h f = λ member. (h member, tt)
  gives_member (Ok None) h f = λ member. tt
  gives_member (Err e) h f = λ member. (tt, f member)

  pub gives_form : (r : Result (Option (KeywordOver K R N)) BuildError) → Built r → Gives ms m (result_transpose r) (HasForm ms P (which o ms m) m.0 m.1)
  gives_form (Ok (Some x)) h = λ member. (h member).made.chosen.1
  gives_form (Ok None) h = λ member. tt
  gives_form (Err e) h = λ member. tt

  pub gives_some : (r : Result (Option (KeywordOver K R N)) BuildError) → Built r → IsMember ms m → has_no_validator ms (which o ms m) m.1 ≡ false → is_none (result_transpose r) ≡ false
  gives_some (Ok (Some x)) h member own = refl
  gives_some (Ok None) h member own = absurd (true≢false (sym (h member).made.chosen ∙ own))
  gives_some (Err e) h member own = refl

-- ---- lists of lists, in another order

module _ {X : Type 0} (f : X → List Fault) where
  flat_map_turned : (xs ys : List X) → IsPermutation xs ys → IsPermutation (flat_map f xs) (flat_map f ys)
  flat_map_turned = along_permutation (λ xs ys. IsPermutation (flat_map f xs) (flat_map f ys)) (λ xs. IsPermutation-refl _) (λ x xs ys h. IsPermutation-append_right (f x) _ _ h)
      (λ x y xs. subst₂ IsPermutation (append_assoc (f x) (f y) _) (append_assoc (f y) (f x) _) (IsPermutation-append_left (flat_map f xs) _ _ (IsPermutation-append_comm (f x) (f y))))
      (λ xs ys zs h k. IsPermutation-trans _ _ _ h k)

  none_permuted : (xs ys : List X) → IsPermutation xs ys → flat_map f xs ≡ [] → flat_map f ys ≡ []
  none_permuted xs ys p e = nil_from_length _ (length_permutation _ _ (flat_map_turned xs ys p) ∙ ap length e)

-- ---- member by member

module _ {K R N : Type 0} {o : Kit K R} (I : StepsOf o) (answers : N → Answers) (ms : Members) (P : Path) where
  -- what is wrong with the members that are read for a member, and what they cost
  abbrev wrong_read : Name × Data → List Fault
  wrong_read m = flat_map (wrong I ms P) (rows_read ms m)

  abbrev cost_read : Name × Data → Cost
  cost_read m = total_cost (costs I ms P) (rows_read ms m)

  -- the keywords so far mean what the members so far claim
  pub record KeywordsSoFar (q : Planned) (a : Counts) (ks : List (KeywordOver K R N)) (left : Rows) (b : Counts) : Type 0 where
    pub plan : q ≡ plan_of ms
    pub distinct : has_repeat (map (λ m. m.0) (listed ms)) ≡ false
    pub so_far : SoFar wrong_read cost_read (λ ks done. KeywordsMean I answers ms ks (flat_map (claims (head (plan_of ms)) (listed ms)) done) done P × AreChosen ms P (keyword_named o.world) done ks) (listed ms) a ks left b

  module _ (distinct : has_repeat (map (λ m. m.0) (listed ms)) ≡ false) where
    all_of_it : total_cost cost_read (listed ms) ≡ all_cost I ms (listed ms)
    all_of_it = sym (total_cost-flat_map (rows_read ms) (costs I ms P) (listed ms)) ∙ total_cost-permuted (costs I ms P) _ _ (rows_read_are_all ms distinct)

    -- what is refused for all that is read is refused for the object
    refused_for_all : {a b : Counts} {e : BuildError} → Refuses (flat_map wrong_read (listed ms)) (total_cost cost_read (listed ms)) a b e → RefusesObject I ms P a b e
    refused_for_all {a} {b} {e} h = record {
      tells = tells (flat_map wrong_read (listed ms)) (all_malformed I ms P (listed ms))
          (λ f c. Contains-permutation _ _ f (flat_map_turned (wrong I ms P) _ _ (rows_read_are_all ms distinct)) (subst (λ l. Contains l f) (sym (flat_map-flat_map (rows_read ms) (wrong I ms P) (listed ms))) c)) e h.tells;
      spends = within_same all_of_it h.spends;
    }

module _ {K R N : Type 0} {o : Kit K R} {I : StepsOf o} {answers : N → Answers} {ms : Members} {P : Path} {q : Planned} {a : Counts} where
  pub no_keywords_so_far : {ks : List (KeywordOver K R N)} {all : Rows} → q ≡ plan_of ms → has_repeat (map (λ m. m.0) (listed ms)) ≡ false → ks ≡ [] → all ≡ listed ms
      → KeywordsSoFar I answers ms P q a ks all a
  no_keywords_so_far {ks} plan distinct e w = record {
    plan = plan;
    distinct = distinct;
    so_far = none_so_far (no_keywords_mean I answers ms P ks e, subst (HaveForms ms P (keyword_named o.world) []) (sym e) tt) w;
  }

  module _ {ks : List (KeywordOver K R N)} {left : Rows} {b : Counts} (h : KeywordsSoFar I answers ms P q a ks left b) where
    pub keywords_memory : {w : AllocError} (e : BuildError) → e ≡ Memory w → RefusesObject I ms P a b e
    keywords_memory e r = refused_for_all I answers ms P h.distinct (memory_so_far h.so_far e r)

    pub object_is_built : left ≡ [] → ObjectIsBuilt I ms answers ks P a b
    object_is_built e =
        let all = all_so_far h.so_far e in
        record {
          mean = heads_mean_all I answers ms P (head (plan_of ms)) ks h.distinct (heads_there ms h.distinct (plan_of ms) refl) all.stand.0;
          chosen = all.stand.1;
          clean = none_permuted (wrong I ms P) _ _ (rows_read_are_all ms h.distinct) (flat_map-flat_map (rows_read ms) (wrong I ms P) (listed ms) ∙ all.clean);
          spends = spends_same a b _ _ (all_of_it I answers ms P h.distinct) all.spends;
        }

    -- the next member
    module _ {next : Rows} {m : Name × Data} (here : left ≡ m ∷ next) where
      pub next_found : IsMember ms m
      next_found = found_each ms h.distinct h.so_far.done m next (ap (λ l. h.so_far.done ++ l) (sym here) ∙ h.so_far.whole)

      -- whether it is taken
      pub next_taken : {t u : Bool} → t ≡ is_taken q m.0 → t ≡ u → is_taken (plan_of ms) m.0 ≡ u
      next_taken e f = ap (λ p. is_taken p m.0) (sym h.plan) ∙ sym e ∙ f

      pub next_refused : {c : Counts} {e : BuildError} → RefusesMember I ms m P b c e → RefusesObject I ms P a c e
      next_refused w = refused_for_all I answers ms P h.distinct (refused_so_far h.so_far here w)

      pub one_more : {new : List (KeywordOver K R N)} {c : Counts} {r : Option (KeywordOver K R N)} → MemberIsBuilt I ms m P b c answers r → new ≡ ks ++ option_to_list r → KeywordsSoFar I answers ms P q a new next c
      one_more {new} {r = r} built e = record {
        plan = h.plan;
        distinct = h.distinct;
        so_far = one_more_so_far h.so_far here built.spends (
          one_more_keyword I answers ms P (head (plan_of ms)) ks (option_to_list r) new h.so_far.done m e h.so_far.built.stand.0 built.made.means,
          subst (AreChosen ms P (keyword_named o.world) (h.so_far.done ++ m ∷ [])) (sym e) (one_more_chosen ms P (keyword_named o.world) m r built.made.chosen h.so_far.done ks h.so_far.built.stand.1),
        ) built.clean;
      }
