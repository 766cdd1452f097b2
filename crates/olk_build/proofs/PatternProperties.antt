-- What holds `patternProperties`.
use Rattle.olk_build.proofs.Together.{by_its_name}
use Rattle.std.proofs.Common.{◌≡◌, ◌≤◌, ◌+◌, ℕ, Bool, true, false, cond, ◌&&◌, ◌||◌, List, [], ◌∷◌, map, zip, length, sum_by, codes, Vec, Some, None, Global, refl, sym, ◌∙◌, ap, subst, arith}
use Rattle.std.proofs.Common.{append-nil}
use Rattle.std.specs.List.{list_all, flat_map}
use Rattle.serde_json.specs.Data.{Data, Members}
use Rattle.olk_spec.specs.Names.{Name, Path, ◌//◌, filter_once, put_if}
use Rattle.olk_spec.specs.World.{reads_as, is_unfinished}
use Rattle.olk_spec.specs.Faults.{Fault, ◌∼◌, like_through}
use Rattle.olk_spec.specs.Schemas.{is_object, members}
use Rattle.olk_spec.specs.Meanings.{matches, is_open}
use Rattle.olk_spec.specs.Tree.{Tree, result}
use Rattle.olk_spec.proofs.Order.{∼_same, ∼_flat_map_any}
use Rattle.olk_base.specs.Compiled.{pattern_answers, pattern_costs}
use Rattle.olk_meaning.specs.PatternProperties.{matched_members, pattern_asks, patterns_told}
use Rattle.olk_meaning.specs.Chosen.{one_or_other, single_pattern_form, patterns_form}
use Rattle.olk_meaning.proofs.Standing.{each_placed, patterns_stand}
use Rattle.olk_tree.specs.Matched.{matched, match_question}
use Rattle.olk_tree.specs.Questions.{Question, every, conditional, always, of_asked}
use Rattle.olk_tree.specs.Shown.{match_trees, match_names, patterns_tree}
use Rattle.olk_tree.specs.PatternProperties.{matched_mean, patterns_mean, matched_report, patterns_report}
use Rattle.olk_build.specs.Reading.{IsPattern}
use Rattle.olk_build.specs.Standing.{EntriesStand}
use Rattle.olk_build.specs.Forms.{IsFormOfPatternProperties, IsPatternProperties}
use Rattle.olk_build.specs.Making.{KeywordMeans, MakesMember}
use Rattle.olk_build.proofs.Held.{Answered, means_told}
use Rattle.olk_build.proofs.Formed.{entry_formed, patterns_hold, entries_placed, stand_as}
use Rattle.olk_build.proofs.Choosing.{entries_length, both_stand}
use Rattle.olk_build.proofs.Pairs.{all_hold, every_accepts, every_asks, like_flat_map, same_flat_map}
use Rattle.olk_meaning.proofs.{Rows.Rows, PatternProperties.pattern_properties_told}
use Rattle.std.proofs.{lemmas.List.Sums.sum_by-cons, Math.Bool.and-true}
use Rattle.olk_tree.proofs.{Answering.more_within, RestrictedAsks.open_counts}
use Rattle.olk_base.specs.{Kit.Kit, declared.pattern.CompiledPattern.CompiledPattern}
use Rattle.olk_tree.specs.{Validators.answers_of, declared.node.KeywordOver.KeywordOver, Answers.Answers}
use Rattle.olk_tree.specs.declared.node.KeywordOver.TheVariants as keyword
use Rattle.olk_build.specs.declared.shape.Shape.TheVariants as shape
use Rattle.olk_meaning.specs.Steps.{accepts, asks, report, tree}
use Rattle.olk_tree.specs.Steps.{StandsBy, StepsOf}

-- ---- patterns and nodes side by side

module _ {P N : Type 0} where
  -- entries made of what is left of both
  abbrev pub MadeOf : List P × List N → List (P × N) → Type 0
  MadeOf left es = es ≡ zip left.0 left.1

  pub both_next : (ps rest : List P) (ns after : List N) (e : P × N) → ps ≡ e.0 ∷ rest → ns ≡ e.1 ∷ after → (es : List (P × N)) → MadeOf (rest, after) es → MadeOf (ps, ns) (e ∷ es)
  both_next ps rest ns after e p n es h = ap (λ l. e ∷ l) h ∙ sym (λ i. zip (p i) (n i))

  pub no_pattern_left : (ps : List P) (ns : List N) → ps ≡ [] → MadeOf (ps, ns) []
  no_pattern_left ps ns p = sym (λ i. zip (p i) ns)

  pub no_node_left : (ps : List P) (ns : List N) → ns ≡ [] → MadeOf (ps, ns) []
  no_node_left ps ns n = sym ((λ i. zip ps (n i)) ∙ none ps)
    where
      none : (ps : List P) → zip {K = P} {X = N} ps [] ≡ []
      none [] = refl
      none (p ∷ ps) = refl

module _ {K R N : Type 0} {o : Kit K R} (I : StepsOf o) (answers : N → Answers) where
  abbrev Entry : Type 0
  Entry = CompiledPattern R × N

  -- ---- what patterns with their nodes mean, and what an entry is to report, show and name

  abbrev all_mean : Data → List Entry → Question
  all_mean v es = patterns_mean o.answers o.costs (λ n. (answers n).means) es v

  module _ (u : Bool) (v : Data) where
    abbrev entry_report : Path → Path → Name × Data → List Fault
    entry_report L Q d = flat_map (λ x. report I.steps u d.1 x.1 (L // d.0) (Q // x.0)) (matched_members o.world u d.0 v)

    abbrev entry_trees : Path → Path → Name × Data → List Tree
    entry_trees L Q d = map (λ x. tree I.steps u d.1 x.1 (L // d.0) (Q // x.0)) (matched_members o.world u d.0 v)

    abbrev entry_names : Name × Data → List Name
    entry_names d = map (λ x. x.0) (matched_members o.world u d.0 v)

  -- ---- one pattern

  module _ (e : Entry) (d : Name × Data) (L : Path) (h : IsPattern o e.0 d.0) (s : StandsBy I answers e.1 d.1 (L // d.0)) (u : Bool) where
    matched_same : (v : Data) → matched o.answers u e.0 v ≡ matched_members o.world u d.0 v
    matched_same v = λ i. filter_once (λ x. reads_as u (h.answers x.0 i)) (members v)

    abbrev ask_member : Name × Data → Bool
    ask_member x = matches o.world u d.0 x.0

    matched_accept : (xs : Rows) → (every (λ x. conditional (match_question o.answers o.costs e.0 x.0) ((answers e.1).means x.1) (always true)) xs).accepts u ≡ list_all
        (λ x. accepts I.steps u d.1 x.1) (filter_once ask_member xs)
    matched_accept [] = refl
    matched_accept (x ∷ xs) = (λ i. cond (reads_as u (h.answers x.0 i)) (s.verdict u x.1 i) true && matched_accept xs i) ∙ by (ask_member x)
      where
        by : (b : Bool) → (cond b (accepts I.steps u d.1 x.1) true && list_all (λ y. accepts I.steps u d.1 y.1) (filter_once ask_member xs)) ≡ list_all
            (λ y. accepts I.steps u d.1 y.1) (put_if b x (filter_once ask_member xs))
        by true = refl
        by false = refl

    abbrev asked_member : Name × Data → ℕ
    asked_member x = pattern_asks o.world d.0 + cond (matches o.world u d.0 x.0) (asks I.steps u d.1 x.1) 0

    abbrev counts : Name × Data → ℕ
    counts x = cond {A = ℕ} (pattern_costs o.costs e.0 || is_unfinished (pattern_answers o.answers e.0 x.0)) 1 0

    -- a match is counted where the pattern is open
    counted : (x : Name × Data) → counts x ≡ cond {A = ℕ} (is_open o.world d.0) 1 0
    counted x = (λ i. cond {A = ℕ} (h.costs i || is_unfinished (h.answers x.0 i)) 1 0) ∙ open_counts o.world d.0 x.0

    abbrev match_asks : Name × Data → ℕ
    match_asks x = counts x + cond (reads_as u (pattern_answers o.answers e.0 x.0)) (((answers e.1).means x.1).asks of_asked u) 0

    one_asks : (x : Name × Data) → match_asks x ≤ asked_member x
    one_asks x = by (ask_member x) (ap (reads_as u) (h.answers x.0))
      where
        by : (b : Bool) → reads_as u (pattern_answers o.answers e.0 x.0) ≡ b → match_asks x ≤ pattern_asks o.world d.0 + cond b (asks I.steps u d.1 x.1) 0
        by true q = let c = counted x in let a = ap {B = ℕ} (λ b. cond b (((answers e.1).means x.1).asks of_asked u) 0) q in let w = s.asks_within u x.1 in omega (arith, c, a, w)
        by false q = let c = counted x in let a = ap {B = ℕ} (λ b. cond b (((answers e.1).means x.1).asks of_asked u) 0) q in omega (arith, c, a)

    matched_ask : (xs : Rows) → (every (λ x. conditional (match_question o.answers o.costs e.0 x.0) ((answers e.1).means x.1) (always true)) xs).asks of_asked u ≤ sum_by asked_member xs
    matched_ask [] = omega arith
    matched_ask (x ∷ xs) = more_within _ _ _ _ _ (one_asks x) (matched_ask xs) (sum_by-cons _ x xs)

    module _ (v : Data) (Q : Path) where
      matched_find : matched_report o.answers (λ n. (answers n).report) u e.0 e.1 v Q ∼ entry_report u v L Q d
      matched_find = subst (λ xs. flat_map (λ x. (answers e.1).report u x.1 (Q // x.0)) xs ∼ entry_report u v L Q d) (sym (matched_same v))
          (∼_flat_map_any _ _ (λ x. s.faults u x.1 (Q // x.0)) (matched_members o.world u d.0 v))

      matched_show : map (λ x. (answers e.1).tree u x.1 (Q // x.0)) (matched o.answers u e.0 v) ≡ entry_trees u v L Q d
      matched_show = ap (map (λ x. (answers e.1).tree u x.1 (Q // x.0))) (matched_same v) ∙ (λ i. map (λ x. s.evaluation u x.1 (Q // x.0) i) (matched_members o.world u d.0 v))

  -- ---- all patterns

  module _ (L : Path) (es : List Entry) (ds : Rows) (h : EntriesStand I answers es ds L) where
    abbrev StandsFor : Entry → Name × Data → Type 0
    StandsFor e d = IsPattern o e.0 d.0 × StandsBy I answers e.1 d.1 (L // d.0)

    pub all_formed : list_all (entry_formed I answers) es ≡ true
    all_formed = all_hold StandsFor _ (λ e d s. s.1.formed) es ds h

    module _ (u : Bool) (v : Data) where
      patterns_accept : (all_mean v es).accepts u ≡ list_all (λ d. list_all (λ x. accepts I.steps u d.1 x.1) (matched_members o.world u d.0 v)) ds
      patterns_accept = every_accepts StandsFor _ u _ (λ e d s. matched_accept e d L s.0 s.1 u (members v)) es ds h

      patterns_ask : (all_mean v es).asks of_asked u ≤ sum_by (λ d. sum_by (λ x. pattern_asks o.world d.0 + cond (matches o.world u d.0 x.0) (asks I.steps u d.1 x.1) 0) (members v)) ds
      patterns_ask = every_asks StandsFor _ u _ (λ e d s. matched_ask e d L s.0 s.1 u (members v)) es ds h

      module _ (Q : Path) where
        patterns_find : patterns_report o.answers (λ n. (answers n).report) u es v Q ∼ flat_map (entry_report u v L Q) ds
        patterns_find = like_flat_map StandsFor _ _ (λ e d s. matched_find e d L s.0 s.1 u v Q) es ds h

        patterns_show : match_trees (λ n. (answers n).tree u) v Q o.answers u es ≡ flat_map (entry_trees u v L Q) ds
        patterns_show = same_flat_map StandsFor _ _ (λ e d s. matched_show e d L s.0 s.1 u v Q) es ds h

        patterns_name : match_names (λ n. (answers n).tree u) v Q o.answers u es ≡ flat_map (entry_names u v) ds
        patterns_name = same_flat_map StandsFor _ _ (λ e d s i. map (λ x. x.0) (matched_same e d L s.0 s.1 u v i)) es ds h

  -- ---- the keyword, in either form

  module _ (L : Path) (es : List Entry) (u : Bool) (v : Data) where
    abbrev all_faults : List Entry → Path → List Fault
    all_faults l Q = patterns_report o.answers (λ n. (answers n).report) u l v Q

    abbrev all_tree : List Entry → Path → Path → Tree
    all_tree l M Q = patterns_tree (λ n. (answers n).tree u) v Q o.answers u M l

    of_patterns : (k : KeywordOver K R N) → IsFormOfPatternProperties L es k
        → Answered I answers k u v ((all_mean v es).accepts u) ((all_mean v es).asks of_asked u) (all_faults es) (all_tree es L)
    unfolding answers_of
    of_patterns (keyword.PatternProperties p) f = record {
      verdict = ap (λ l. (all_mean v l).accepts u) f.0;
      asks_within = let q = ap (λ l. (all_mean v l).asks of_asked u) f.0 in omega (arith, q);
      faults = λ Q. ap (λ l. all_faults l Q) f.0;
      evaluation = λ Q. λ i. all_tree (f.0 i) (f.2 i) Q;
    }
    of_patterns (keyword.SingleValuePatternProperties p) f = record {
      verdict = sym (ap (λ l. (all_mean v l).accepts u) f.0 ∙ and-true ((matched_mean o.answers o.costs (λ n. (answers n).means) p.value.regex p.value.node v).accepts u));
      asks_within = let q = ap (λ l. (all_mean v l).asks of_asked u) f.0 in omega (arith, q);
      faults = λ Q. sym (ap (λ l. all_faults l Q) f.0 ∙ append-nil _);
      evaluation = λ Q. λ i. all_tree (sym f.0 i) (f.1 i) Q;
    }
    of_patterns x f = absurd f

  module _ (k : KeywordOver K R N) (L : Path) (es : List Entry) (form : IsFormOfPatternProperties L es k) (d : Data) (stand : EntriesStand I answers es (members d) L) where
    means_patterns : (ms : Members) (P : Path) → L ≡ P // codes "patternProperties" → KeywordMeans I answers ms (k ∷ []) (codes "patternProperties", d) P
    means_patterns ms P p = means_told I answers ms k (codes "patternProperties", d) P L (patterns_told I.steps (members d)) p (pattern_properties_told I.steps ms d) (record {
      verdict = λ u v. (of_patterns L es u v k form).verdict ∙ patterns_accept L es (members d) stand u v;
      asks_within = λ u v. let f = (of_patterns L es u v k form).asks_within in let a = patterns_ask L es (members d) stand u v in omega (arith, f, a);
      faults = λ u v Q. like_through (∼_same ((of_patterns L es u v k form).faults Q)) (patterns_find L es (members d) stand u v Q);
      evaluation = λ u v Q. (of_patterns L es u v k form).evaluation Q
          ∙ (λ i. result L Q (cond (is_object v) (Some (patterns_name L es (members d) stand u v Q i)) None) false [] (patterns_show L es (members d) stand u v Q i));
      formed = (patterns_hold I answers k L es form).0 (all_formed L es (members d) stand);
    }) (λ own. append-nil (stand_as I answers k) ∙ (patterns_hold I answers k L es form).1
        ∙ (λ i. (p i, one_or_other single_pattern_form patterns_form (entries_length I answers es (members d) L stand i))
        ∷ (entries_placed I answers es (members d) L stand ∙ ap (λ M. each_placed I.steps M (members d)) p) i) ∙ sym (patterns_stand I.steps ms P d own))

  pub makes_pattern_properties : (k : KeywordOver K R N) (L : Path) (v : Vec (CompiledPattern R) Global) (ns : List N) (es : List Entry)
      → es ≡ zip v.items ns → IsFormOfPatternProperties L es k → MakesMember I answers (shape.PatternProperties v) L ns (k ∷ [])
  makes_pattern_properties k L v ns es e form ms m P p s h = by_its_name I answers s.0 p
      (means_patterns k L es form m.1 (subst (λ l. EntriesStand I answers l (members m.1) L) (sym e) (both_stand I answers v.items ns (members m.1) L s.2 h)) ms P)

-- ---- the form, by how many patterns there are

pub is_pattern_properties : {K R N : Type 0} (k : KeywordOver K R N) (L : Path) (es all : List (CompiledPattern R × N)) → es ≡ all → IsFormOfPatternProperties L es k
    → IsPatternProperties L (length all) k
is_pattern_properties (keyword.PatternProperties p) L es all e f = (λ q. f.1 (ap length e ∙ q), f.2)
is_pattern_properties (keyword.SingleValuePatternProperties p) L es all e f = (sym (ap length e) ∙ ap length f.0, f.1)
is_pattern_properties x L es all e f = absurd f
