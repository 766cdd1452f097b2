-- Which schemas the nodes stand for that `additionalProperties` asks of a member.
use Rattle.std.specs.Prelude.{◌≡◌, ⊤, ℕ, ◌+◌, suc, Bool, true, false, not, cond, ◌&&◌, ◌||◌, List, [], ◌∷◌, ◌++◌, map, codes, bytes_eq, Option, Some, None, is_none, is_some, option_map, option_to_list, slice_get}
use Rattle.std.specs.List.{enumerate_from, zip}
use Rattle.std.specs.Ordering.{is_eq}
use Rattle.std.specs.declared.cmp.Ordering.{Ordering}
use Rattle.std.specs.declared.cmp.Ordering.TheVariants.{Less, Equal, Greater}
use Rattle.std.proofs.Common.{refl, sym, ap, ◌∙◌, subst, arith}
use Rattle.std.proofs.lemmas.Map.Text.{is_eq-slice_cmp}
use Rattle.olk_meaning.proofs.PropertyNames.{false_is_no_object, object_is_not_false}
use mathlib.Core.Bool.{true≢false}
use Rattle.serde_json.specs.Data.{Data}
use Rattle.olk_spec.specs.Names.{Name, Path, ◌//◌, lookup_name, first_if_equal, put_if, is_empty}
use Rattle.olk_spec.specs.World.{Says, matched, unfinished, reads_as}
use Rattle.olk_spec.specs.Faults.{Fault}
use Rattle.olk_spec.specs.Schemas.{is_object, is_truth}
use Rattle.olk_spec.specs.Meanings.{matches}
use Rattle.olk_spec.specs.Tree.{Tree}
use Rattle.olk_spec.proofs.Maps.{is_empty-map}
use Rattle.olk_spec.proofs.Walks.{same_name}
use Rattle.olk_base.specs.Kit.{Kit}
use Rattle.olk_tree.specs.Steps.{StepsOf}
use Rattle.olk_base.specs.Compiled.{pattern_answers}
use Rattle.olk_base.specs.declared.pattern.CompiledPattern.{CompiledPattern}
use Rattle.olk_meaning.specs.AdditionalProperties.{is_declared_in, declared_at, matching_at, is_other}
use Rattle.olk_tree.specs.Questions.{Question}
use Rattle.olk_tree.specs.Additional.{Sides, known_at, known_or, is_matched_by, matching_from, at_name, nodes_matching, is_additional, others_asked, nodes_asked}
use Rattle.olk_tree.specs.Sides.{AnswersAs, EntriesAnswer, PatternsAnswer, RestAnswers, SidesStand}
use Rattle.olk_tree.proofs.Answering.{AnswerAs, answer_append, both_empty}
use Rattle.olk_meaning.proofs.Rows.{Rows}

-- a look-up finds what is declared
pub declared_found : (n : Name) (fs : Rows) → is_declared_in fs n ≡ is_some (lookup_name n fs)
declared_found n [] = refl
declared_found n (e ∷ fs) = by _ (is_eq-slice_cmp n e.0) (declared_found n fs)
  where
    by : (c : Ordering) → is_eq c ≡ bytes_eq n e.0 → is_declared_in fs n ≡ is_some (lookup_name n fs) → (bytes_eq n e.0 || is_declared_in fs n) ≡ is_some (first_if_equal c e.1 (lookup_name n fs))
    by Less q h = ap (λ b. b || is_declared_in fs n) (sym q) ∙ h
    by Equal q h = ap (λ b. b || is_declared_in fs n) (sym q)
    by Greater q h = ap (λ b. b || is_declared_in fs n) (sym q) ∙ h

-- what a look-up may tell of a pattern: where the name isn't declared, nothing
abbrev pub recalled : {X : Type 0} → Option X → Says → Says
recalled None s = unfinished
recalled (Some x) s = s

recalled_is_said : {X : Type 0} (a : Option X) (s : Says) → known_or (recalled a s) s ≡ s
recalled_is_said None s = refl
recalled_is_said (Some x) matched = refl
recalled_is_said (Some x) _ = refl

module _ {K R N : Type 0} {o : Kit K R} (I : StepsOf o) (m : N → Data → Question) (r : N → Bool → Data → Path → List Fault) (t : N → Bool → Data → Path → Tree) (n : Name) where
  -- ---- what is declared at the name

  module _ (L : Path) where
    -- a node with its place from k on, for the schema of these that stands there
    abbrev FoundFrom : ℕ → Rows → Option (ℕ × N) → Option Data → Type 0
    FoundFrom k fs None None = ⊤
    FoundFrom k fs (Some f) (Some s) = AnswersAs I m r t f.1 s (L // n) × (i : ℕ) × (f.0 ≡ k + i) × (slice_get (map (λ e. e.0) fs) i ≡ Some n)
    FoundFrom k fs _ _ = ⊥

    found_later : (k : ℕ) (e : Name × Data) (fs : Rows) (a : Option (ℕ × N)) (b : Option Data) → FoundFrom (k + 1) fs a b → FoundFrom k (e ∷ fs) a b
    found_later k e fs None None g = tt
    found_later k e fs (Some f) (Some s) g = let p = g.2 in (g.0, suc g.1, omega (arith, p), g.3)
    found_later k e fs _ _ g = absurd g

    found : (k : ℕ) (ns : List N) (fs : Rows) → EntriesAnswer I m r t ns fs L → FoundFrom k fs (lookup_name n (zip (map (λ e. e.0) fs) (enumerate_from k ns))) (lookup_name n fs)
    found k [] [] h = tt
    found k (x ∷ ns) (e ∷ fs) h = by _ (is_eq-slice_cmp n e.0) (found_later k e fs _ _ (found (k + 1) ns fs h.1))
      where
        by : (c : Ordering) → is_eq c ≡ bytes_eq n e.0 → FoundFrom k (e ∷ fs) (lookup_name n (zip (map (λ e. e.0) fs) (enumerate_from (k + 1) ns))) (lookup_name n fs)
            → FoundFrom k (e ∷ fs) (first_if_equal c (k, x) (lookup_name n (zip (map (λ e. e.0) fs) (enumerate_from (k + 1) ns)))) (first_if_equal c e.1 (lookup_name n fs))
        by Less q g = g
        by Greater q g = g
        by Equal q g = let same = same_name n e.0 (sym q) in (subst (λ k. AnswersAs I m r t x e.1 (L // k)) (sym same) h.0, 0, omega arith, ap Some (sym same))
    found k _ _ h = absurd h

    found_answers : (fs : Rows) (a : Option (ℕ × N)) (b : Option Data) → FoundFrom 0 fs a b → AnswerAs I m r t (option_to_list (option_map (λ f. f.1) a))
        (map (λ s. (s, L // n)) (option_to_list b))
    found_answers fs None None g = tt
    found_answers fs (Some f) (Some s) g = (g.0, tt)
    found_answers fs _ _ g = absurd g

    found_both : (fs : Rows) (a : Option (ℕ × N)) (b : Option Data) → FoundFrom 0 fs a b → is_some a ≡ is_some b
    found_both fs None None g = refl
    found_both fs (Some f) (Some s) g = refl
    found_both fs _ _ g = absurd g

  -- ---- what the patterns match

  module _ (S : Sides R N) (a : Option (ℕ × N)) where
    -- what is known of these patterns, which stand from index i on
    abbrev pub Recalls : ℕ → List (CompiledPattern R × N) → Type 0
    Recalls i ps = (j q : ℕ) (c : CompiledPattern R) → q ≡ i + j → slice_get (map (λ p. p.0) ps) j ≡ Some c → known_at S a q ≡ recalled a (pattern_answers o.answers c n)

    pub recalls_later : (i : ℕ) (p : CompiledPattern R × N) (ps : List (CompiledPattern R × N)) → Recalls i (p ∷ ps) → Recalls (i + 1) ps
    recalls_later i p ps h j q c e g = h (suc j) q c (omega (arith, e)) g

    pub recalls_here : (i : ℕ) (p : CompiledPattern R × N) (ps : List (CompiledPattern R × N)) → Recalls i (p ∷ ps) → known_at S a i ≡ recalled a (pattern_answers o.answers p.0 n)
    recalls_here i p ps h = h 0 i p.0 (omega arith) refl

    module _ (u : Bool) (L : Path) where
      matching_answer : (i : ℕ) (ps : List (CompiledPattern R × N)) (es : Rows) → PatternsAnswer I m r t ps es L → Recalls i ps
          → AnswerAs I m r t (matching_from o.answers S a n u i ps) (map (λ e. (e.1, L // e.0)) (matching_at o.world u es n))
      matching_answer i [] [] h k = tt
      matching_answer i (p ∷ ps) (e ∷ es) h k = by _ _ same (matching_answer (i + 1) ps es h.2 (recalls_later i p ps k))
        where
          same : is_matched_by o.answers S a n u i p.0 ≡ matches o.world u e.0 n
          same = ap (reads_as u) (ap (λ s. known_or s (pattern_answers o.answers p.0 n)) (recalls_here i p ps k) ∙ recalled_is_said a _ ∙ h.0.answers n)

          by : (b c : Bool) → b ≡ c → AnswerAs I m r t (matching_from o.answers S a n u (i + 1) ps) (map (λ e. (e.1, L // e.0)) (matching_at o.world u es n))
              → AnswerAs I m r t (put_if b p.1 (matching_from o.answers S a n u (i + 1) ps)) (map (λ e. (e.1, L // e.0)) (put_if c e (matching_at o.world u es n)))
          by true true q g = (h.1, g)
          by true false q g = absurd (true≢false q)
          by false true q g = absurd (true≢false (sym q))
          by false false q g = g
      matching_answer i _ _ h k = absurd h

-- ---- all that is asked of a member with this name

module _ {K R N : Type 0} {o : Kit K R} {I : StepsOf o} {m : _} {r : _} {t : _} {S : Sides R N} {fs es : Rows} {d : Data} {P : Path} (h : SidesStand I m r t S fs es d P) where
  -- the places of the three keywords
  abbrev at_properties : Path
  at_properties = P // codes "properties"

  abbrev at_patterns : Path
  at_patterns = P // codes "patternProperties"

  abbrev at_rest : Path
  at_rest = P // codes "additionalProperties"

  -- a schema under a pattern, with its place
  abbrev pub pattern_schema : Name × Data → Data × Path
  pattern_schema e = (e.1, at_patterns // e.0)

  pub is_rest : is_some S.rest ≡ is_object d
  is_rest = by S.rest h.rest
    where
      by : (x : Option N) → RestAnswers I m r t x d at_rest → is_some x ≡ is_object d
      by None g = sym (false_is_no_object d g)
      by (Some x) g = sym g.0

  pub is_no_rest : is_none S.rest ≡ is_truth false d
  is_no_rest = by S.rest h.rest
    where
      by : (x : Option N) → RestAnswers I m r t x d at_rest → is_none x ≡ is_truth false d
      by None g = sym g
      by (Some x) g = sym (object_is_not_false d g.0)

  module _ (n : Name) where
    at_name_found : FoundFrom I m r t n at_properties 0 fs (at_name S n) (lookup_name n fs)
    at_name_found =
        subst (λ l. FoundFrom I m r t n at_properties 0 fs (lookup_name n l) (lookup_name n fs)) (sym h.placed_zip) (found I m r t n at_properties 0 h.nodes fs h.declared)

    -- the name is declared where it has a node
    pub is_declared : is_some (at_name S n) ≡ is_declared_in fs n
    is_declared = found_both I m r t n _ fs _ _ at_name_found ∙ sym (declared_found n fs)

    recalls_if : (a : Option (ℕ × N)) (b : Option Data) → FoundFrom I m r t n at_properties 0 fs a b → Recalls I m r t n S a 0 S.patterns
    recalls_if None b g j q c e f = refl
    recalls_if (Some x) None g j q c e f = absurd g
    recalls_if (Some x) (Some s) g j q c e f =
        let place : x.0 ≡ g.1 = (let p = g.2 in omega (arith, p)) in
        let index : q ≡ j = omega (arith, e) in
        h.known x.0 q n c (ap (slice_get _) place ∙ g.3) (ap (slice_get _) index ∙ f)

    -- what is known of the patterns at the name is what they say of it
    pub recalls : Recalls I m r t n S (at_name S n) 0 S.patterns
    recalls = recalls_if _ _ at_name_found

    -- and one that is declared at the name
    abbrev pub declared_schema : Data → Data × Path
    declared_schema s = (s, at_properties // n)

    module _ (u : Bool) where
      pub nodes_matching_answer : AnswerAs I m r t (nodes_matching o.answers S u n) (map pattern_schema (matching_at o.world u es n))
      nodes_matching_answer = matching_answer I m r t n S (at_name S n) u at_patterns 0 S.patterns es h.patterns recalls

      pub is_additional_other : is_additional o.answers S u n ≡ is_other o.world u fs es n
      is_additional_other = λ i. none_declared i && none_matching i
        where
          not_some : {X : Type 0} (x : Option X) → is_none x ≡ not (is_some x)
          not_some None = refl
          not_some (Some x) = refl

          none_declared : is_none (at_name S n) ≡ not (is_declared_in fs n)
          none_declared = not_some _ ∙ ap not is_declared

          none_matching : is_empty (nodes_matching o.answers S u n) ≡ is_empty (matching_at o.world u es n)
          none_matching =
              both_empty I m r t _ _ nodes_matching_answer
              ∙ is_empty-map _ _

      -- the schemas that are asked, each with its place: the declared one, those whose pattern matches, and where there is neither the rest
      abbrev pub declared_schemas : List (Data × Path)
      declared_schemas = map declared_schema (declared_at fs n)

      abbrev pub matching_schemas : List (Data × Path)
      matching_schemas = map pattern_schema (matching_at o.world u es n)

      abbrev pub rest_schemas : List (Data × Path)
      rest_schemas = put_if (is_object d && is_other o.world u fs es n) (d, at_rest) []

      rest_answers : AnswerAs I m r t (cond (is_additional o.answers S u n) (option_to_list S.rest) []) rest_schemas
      rest_answers = by S.rest h.rest _ _ is_additional_other
        where
          by : (x : Option N) → RestAnswers I m r t x d at_rest → (b c : Bool) → b ≡ c → AnswerAs I m r t (cond b (option_to_list x) [])
              (put_if (is_object d && c) (d, at_rest) [])
          by None g b c q = none _ (false_is_no_object d g) b
            where
              none : (object : Bool) → object ≡ false → (b : Bool) → AnswerAs I m r t (cond b [] []) (put_if (object && c) (d, at_rest) [])
              none true e b = absurd (true≢false e)
              none false e true = tt
              none false e false = tt
          by (Some x) g b c q = one _ g.0 b c q
            where
              one : (object : Bool) → object ≡ true → (b c : Bool) → b ≡ c → AnswerAs I m r t (cond b (x ∷ []) []) (put_if (object && c) (d, at_rest) [])
              one false e b c q = absurd (true≢false (sym e))
              one true e true true q = (g.1, tt)
              one true e true false q = absurd (true≢false q)
              one true e false true q = absurd (true≢false (sym q))
              one true e false false q = tt

      abbrev pub other_schemas : List (Data × Path)
      other_schemas = matching_schemas ++ rest_schemas

      abbrev pub asked_schemas : List (Data × Path)
      asked_schemas = declared_schemas ++ other_schemas

      -- beside what is declared
      pub others_answer : AnswerAs I m r t (others_asked o.answers S u n) other_schemas
      others_answer = answer_append I m r t _ matching_schemas _ rest_schemas nodes_matching_answer rest_answers

      pub asked_answer : AnswerAs I m r t (nodes_asked o.answers S u n) asked_schemas
      asked_answer = answer_append I m r t _ declared_schemas _ _ (found_answers I m r t n _ fs _ _ at_name_found) others_answer
