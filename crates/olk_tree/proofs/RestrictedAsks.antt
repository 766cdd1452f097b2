-- `additionalProperties` over nodes that stand for schemas asks no more matchers than the raw data asks for.
use Rattle.std.specs.Prelude.{◌≡◌, ◌≤◌, ℕ, ◌+◌, Bool, true, false, not, cond, ◌&&◌, ◌||◌, List, [], ◌∷◌, ◌++◌, length, codes, sum_by, count_by, Option, Some, None, is_none, is_some, option_map, option_to_list}
use Rattle.std.specs.Option.{option_map_or}
use Rattle.std.proofs.Common.{refl, sym, ap, ◌∙◌, arith}
use Rattle.std.proofs.lemmas.List.Sums.{sum_by-cons, sum_by-append}
use Rattle.olk_meaning.proofs.Facts.{sum_by-map}
use Rattle.serde_json.specs.Data.{Data}
use Rattle.olk_spec.specs.Names.{Name, Text, Path, ◌//◌, put_if, is_empty}
use Rattle.olk_spec.specs.World.{World, Says, matched, unmatched, is_unfinished}
use Rattle.olk_spec.specs.Faults.{Fault}
use Rattle.olk_spec.specs.Schemas.{is_object, members}
use Rattle.olk_spec.specs.Literals.{Literal, literal}
use Rattle.olk_spec.specs.Meanings.{literal_says, pattern_says, is_open}
use Rattle.olk_meaning.specs.Steps.{asks}
use Rattle.olk_spec.specs.Tree.{Tree}
use Rattle.olk_base.specs.Kit.{Kit}
use Rattle.olk_tree.specs.Steps.{StepsOf}
use Rattle.olk_base.specs.Compiled.{pattern_answers, pattern_costs}
use Rattle.olk_base.specs.declared.pattern.CompiledPattern.{CompiledPattern}
use Rattle.olk_meaning.specs.AdditionalProperties.{declared_at, matching_at, open_among, patterns_asked, declared_asks, matching_asks, rest_asks, each_asks}
use Rattle.olk_tree.specs.Questions.{Question, said_to, every, of_asked}
use Rattle.olk_tree.specs.Additional.{Sides, known_at, known_or_asked, matching_from, at_name, nodes_asked, rest_means, patterns_mean_from, member_means_at, member_means, means_in_turn}
use Rattle.olk_tree.specs.AdditionalAgreement.{match_is_said}
use Rattle.olk_tree.specs.Sides.{PatternsAnswer, SidesStand}
use Rattle.olk_tree.proofs.Answering.{more_within, all_ask}
use Rattle.olk_tree.proofs.AskedSchemas.{Recalls, recalls_here, recalls_later, recalls, is_declared, declared_schema, declared_schemas, matching_schemas, rest_schemas, other_schemas, asked_schemas, asked_answer}
use Rattle.olk_meaning.proofs.Rows.{Rows}

-- ---- what a member asks is what its nodes ask, and the matchers that are asked for its name

module _ {R N : Type 0} (answers : R → Name → Says) (costs : R → Bool) (S : Sides R N) (n : Name) (u : Bool) (a : Option (ℕ × N)) where
  -- whether the matcher of the pattern with this index is asked
  abbrev pub matcher_asked : ℕ → CompiledPattern R → ℕ
  matcher_asked i p = (known_or_asked (known_at S a i) (said_to (pattern_costs costs p) (pattern_answers answers p n))).asks of_asked u

  -- the matchers that are asked whether these patterns match, which stand from index i on
  abbrev pub matchers_asked : ℕ → List (CompiledPattern R × N) → ℕ
  matchers_asked i [] = 0
  matchers_asked i (p ∷ ps) = matcher_asked i p.0 + matchers_asked (i + 1) ps

  module _ (m : N → Data → Question) (x : Data) where
    abbrev pub nodes_ask : Bool → List N → ℕ
    nodes_ask alone ns = (every (λ e. m e x) (ns ++ cond alone (option_to_list S.rest) [])).asks of_asked u

    -- these nodes, and where they are none and nothing else speaks of the member the rest
    abbrev pub nodes_or_rest : Bool → List N → ℕ
    nodes_or_rest spoken ns = nodes_ask (not spoken && is_empty ns) ns

    one_more : (spoken b : Bool) (e : N) (ns : List N) (c k a later : ℕ) → a ≡ nodes_ask false ns + k → later ≡ nodes_or_rest spoken ns + k
        → c + cond b ((m e x).asks of_asked u + a) later ≡ nodes_or_rest spoken (put_if b e ns) + (c + k)
    one_more true true e ns c k a later h g = omega (arith, h)
    one_more false true e ns c k a later h g = omega (arith, h)
    one_more spoken false e ns c k a later h g = omega (arith, g)

    abbrev pub asks_from : Bool → ℕ → List (CompiledPattern R × N) → ℕ
    asks_from spoken i ps = (patterns_mean_from answers costs m S a n x spoken i ps).asks of_asked u

    pub patterns_ask : (spoken : Bool) (i : ℕ) (ps : List (CompiledPattern R × N)) → asks_from spoken i ps ≡ nodes_or_rest spoken (matching_from answers S a n u i ps) + matchers_asked i ps
    patterns_ask true i [] = omega arith
    patterns_ask false i [] = by S.rest
      where
        by : (y : Option N) → (rest_means m x y).asks of_asked u ≡ (every (λ e. m e x) (option_to_list y)).asks of_asked u + 0
        by None = omega arith
        by (Some y) = omega arith
    patterns_ask spoken i (p ∷ ps) =
        ap {B = ℕ} (λ b. matcher_asked i p.0 + cond b ((m p.1 x).asks of_asked u + asks_from true (i + 1) ps) (asks_from spoken (i + 1) ps))
        (match_is_said u (pattern_costs costs p.0) (known_at S a i) (pattern_answers answers p.0 n)) ∙ one_more spoken _ p.1 _ _ _ _ _ (patterns_ask true _ ps) (patterns_ask spoken _ ps)

module _ {R N : Type 0} (answers : R → Name → Says) (costs : R → Bool) (m : N → Data → Question) (S : Sides R N) (n : Name) (x : Data) (u : Bool) where
  member_asks_at : (a : Option (ℕ × N)) → (member_means_at answers costs m S a n x).asks of_asked u ≡
      (every (λ e. m e x) (option_to_list (option_map (λ f. f.1) a) ++
      (matching_from answers S a n u 0 S.patterns ++ cond (is_none a && is_empty (matching_from answers S a n u 0 S.patterns))
      (option_to_list S.rest) []))).asks of_asked u + matchers_asked answers costs S n u a 0 S.patterns
  member_asks_at None = let p = patterns_ask answers costs S n u None m x false 0 S.patterns in omega (arith, p)
  member_asks_at (Some f) = let p = patterns_ask answers costs S n u (Some f) m x true 0 S.patterns in omega (arith, p)

  member_asks : (member_means answers costs m S n x).asks of_asked u ≡ (every (λ e. m e x) (nodes_asked answers S u n)).asks of_asked u + matchers_asked answers costs S n u (at_name S n) 0 S.patterns
  member_asks = member_asks_at (at_name S n)

-- ---- the matchers that are asked for a name

-- where what a text says is known, its matcher is asked if it left the name unfinished
asked_if_unfinished : (W : World) (u : Bool) (text : Text) (n : Name) → (known_or_asked (pattern_says W text n) (said_to (is_open W text) (pattern_says W text n))).asks of_asked u ≡ cond
    (is_open W text) (cond (is_unfinished (W.says text n)) 1 0) 0
asked_if_unfinished W u text n = by (literal text) _
  where
    by : (l : Option Literal) (s : Says) → (known_or_asked (option_map_or (λ l. literal_says W l n) l s)
        (said_to (is_none l) (option_map_or (λ l. literal_says W l n) l s))).asks of_asked u ≡ cond (is_none l) (cond (is_unfinished s) 1 0) 0
    by None matched = refl
    by (Some l) s = test _
      where
        test : (b : Bool) → (known_or_asked (cond b matched unmatched) (said_to false (cond b matched unmatched))).asks of_asked u ≡ 0
        test true = refl
        test false = refl
    by None _ = refl

-- a test is never left unfinished, so that it counts exactly where its matcher is asked
pub open_counts : (W : World) (text : Text) (n : Name) → cond {A = ℕ} (is_open W text || is_unfinished (pattern_says W text n)) 1 0 ≡ cond (is_open W text) 1 0
open_counts W text n = by (literal text) _
  where
    by : (l : Option Literal) (s : Says) → cond {A = ℕ} (is_none l || is_unfinished (option_map_or (λ l. literal_says W l n) l s)) 1 0 ≡ cond (is_none l) 1 0
    by None s = refl
    by (Some l) s = test _
      where
        test : (b : Bool) → cond {A = ℕ} (false || is_unfinished (cond b matched unmatched)) 1 0 ≡ 0
        test true = refl
        test false = refl

module _ {K R N : Type 0} {o : Kit K R} (I : StepsOf o) (m : N → Data → Question) (r : N → Bool → Data → Path → List Fault) (t : N → Bool → Data → Path → Tree) (n : Name) (u : Bool) (S : Sides R N) (L : Path) where
  -- of a name that isn't declared, each
  all_asked : (i : ℕ) (ps : List (CompiledPattern R × N)) (es : Rows) → PatternsAnswer I m r t ps es L → matchers_asked o.answers o.costs S n u None i ps ≡ length (open_among o.world es)
  all_asked i [] [] h = refl
  all_asked i (p ∷ ps) (e ∷ es) h =
      (λ j. cond (h.0.costs j || is_unfinished (h.0.answers n j)) 1 0 + all_asked (i + 1) ps es h.2 j) ∙ ap (λ c. c + length (open_among o.world es))
      (open_counts o.world e.0 n) ∙ by (is_open o.world e.0)
    where
      by : (b : Bool) → cond b 1 0 + length (open_among o.world es) ≡ length (put_if b e.0 (open_among o.world es))
      by true = omega arith
      by false = omega arith
  all_asked i _ _ h = absurd h

  abbrev is_left : Text → Bool
  is_left text = is_unfinished (o.world.says text n)

  -- of a declared one, those that left it unfinished
  unfinished_asked : (f : ℕ × N) (i : ℕ) (ps : List (CompiledPattern R × N)) (es : Rows) → PatternsAnswer I m r t ps es L
      → Recalls I m r t n S (Some f) i ps → matchers_asked o.answers o.costs S n u (Some f) i ps ≡ count_by is_left (open_among o.world es)
  unfinished_asked f i [] [] h k = refl
  unfinished_asked f i (p ∷ ps) (e ∷ es) h k =
      (λ j. (known_or_asked ((recalls_here I m r t n S (Some f) i p ps k ∙ h.0.answers n) j) (said_to (h.0.costs j) (h.0.answers n j))).asks of_asked u + unfinished_asked f
      (i + 1) ps es h.2 (recalls_later I m r t n S (Some f) i p ps k) j)
      ∙ ap (λ c. c + count_by is_left (open_among o.world es)) (asked_if_unfinished o.world u e.0 n)
      ∙ by (is_open o.world e.0)
    where
      by : (b : Bool) → cond b (cond (is_left e.0) 1 0) 0 + count_by is_left (open_among o.world es) ≡ count_by is_left (put_if b e.0 (open_among o.world es))
      by true = sym (sum_by-cons _ e.0 (open_among o.world es))
      by false = omega arith
  unfinished_asked f i _ _ h k = absurd h

  matchers_counted : (a : Option (ℕ × N)) (ps : List (CompiledPattern R × N)) (es : Rows) → PatternsAnswer I m r t ps es L
      → Recalls I m r t n S a 0 ps → matchers_asked o.answers o.costs S n u a 0 ps ≡ cond (is_some a) (count_by is_left (open_among o.world es)) (length (open_among o.world es))
  matchers_counted None ps es h k = all_asked 0 ps es h
  matchers_counted (Some f) ps es h k = unfinished_asked f 0 ps es h k

-- ---- all

module _ {K R N : Type 0} {o : Kit K R} {I : StepsOf o} {m : _} {r : _} {t : _} {S : Sides R N} {fs es : Rows} {d : Data} {P : Path} (h : SidesStand I m r t S fs es d P) (u : Bool) where
  pub matchers_for : (n : Name) → matchers_asked o.answers o.costs S n u (at_name S n) 0 S.patterns ≡ patterns_asked o.world fs es n
  matchers_for n = matchers_counted I m r t n u S _ (at_name S n) S.patterns es h.patterns (recalls h n)
      ∙ ap {B = ℕ} (λ b. cond b (count_by (λ x. is_unfinished (o.world.says x n)) (open_among o.world es)) (length (open_among o.world es))) (is_declared h n)

  module _ (x : Name × Data) where
    abbrev pub asking : Data × Path → ℕ
    asking s = asks I.steps u s.0 x.1

    pub asked_by_others : sum_by asking (other_schemas h x.0 u) ≡ matching_asks I.steps u fs es x + sum_by asking (rest_schemas h x.0 u)
    asked_by_others =
        sum_by-append asking (matching_schemas h x.0 u) _ ∙ ap (λ k. k + sum_by asking (rest_schemas h x.0 u)) (sum_by-map asking _ (matching_at o.world u es x.0))

    asked_by_part : sum_by asking (asked_schemas h x.0 u) ≡ declared_asks I.steps u fs es x + (matching_asks I.steps u fs es x + sum_by asking (rest_schemas h x.0 u))
    asked_by_part = sum_by-append asking (declared_schemas h x.0 u) _ ∙ (λ i. sum_by-map asking (declared_schema h x.0) (declared_at fs x.0) i + asked_by_others i)

    pub rest_within : sum_by asking (rest_schemas h x.0 u) ≤ rest_asks I.steps u fs es d x
    rest_within = by (is_object d) _
      where
        by : (a b : Bool) → sum_by asking (put_if (a && b) (d, P // codes "additionalProperties") []) ≤ cond b (asks I.steps u d x.1) 0
        by true true = omega arith
        by true false = omega arith
        by false true = omega arith
        by false false = omega arith

    asked_each : (member_means o.answers o.costs m S x.0 x.1).asks of_asked u ≤ each_asks I.steps u fs es d x
    asked_each =
        let whole = member_asks o.answers o.costs m S x.0 x.1 u in
        let nodes = all_ask I m r t u x.1 _ _ (asked_answer h x.0 u) in
        let parts = asked_by_part in
        let rest = rest_within in
        let matchers = matchers_for x.0 in
        omega (arith, whole, nodes, parts, rest, matchers)

  -- it asks at most what each member asks
  pub restricted_asks : (v : Data) → (means_in_turn o.answers o.costs m S v).asks of_asked u ≤ sum_by (each_asks I.steps u fs es d) (members v)
  restricted_asks v = along (members v)
    where
      along : (xs : Rows) → (every (λ x. member_means o.answers o.costs m S x.0 x.1) xs).asks of_asked u ≤ sum_by (each_asks I.steps u fs es d) xs
      along [] = omega arith
      along (x ∷ xs) = more_within _ _ _ _ _ (asked_each x) (along xs) (sum_by-cons (each_asks I.steps u fs es d) x xs)
