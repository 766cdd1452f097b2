-- What is asked of a member beside `additionalProperties`, node by node.
use Rattle.std.proofs.Common.{◌≡◌, ℕ, ◌+◌, Bool, true, false, not, ◌&&◌, ◌||◌, cond, List, [], ◌∷◌, ◌++◌, drop, Option, is_none, is_some, option_to_list, refl, sym, ap, subst, ◌∙◌, Result, Ok, Err}
use Rattle.std.proofs.lemmas.List.{append-nil}
use Rattle.std.proofs.Math.Bool.{and-false, and-true}
use Rattle.serde_json.specs.Data.{Data}
use Rattle.olk_spec.specs.Names.{Name, Path, ◌//◌, put_if, is_empty}
use Rattle.olk_spec.specs.World.{Says, reads_as}
use Rattle.olk_spec.specs.Faults.{Fault}
use Rattle.olk_base.specs.Lawful.{Asking}
use Rattle.olk_base.specs.Compiled.{pattern_answers}
use Rattle.olk_base.specs.declared.pattern.CompiledPattern.{CompiledPattern}
use Rattle.olk_tree.specs.Questions.{Question, said_to}
use Rattle.olk_tree.specs.Additional.{Sides, known_at, known_or, known_or_asked, is_matched_by, matching_from}
use Rattle.olk_tree.specs.AdditionalAgreement.{match_is_said}
use Rattle.olk_check.specs.Asks.{OnlyAsks, IsAnswer}
use Rattle.olk_check.proofs.Asked.{answer_first, answer_then}
use Rattle.olk_errors.specs.Found.{Outcome}
use Rattle.olk_errors.specs.Outcomes.{of_node, of_branches, declared_nodes, unspoken_from, asked_from, asked_at, unexpected_at, if_matched}
use Rattle.olk_errors.specs.Sinks.{Walks}
use Rattle.olk_errors.specs.declared.sink.ErrorSink.{ErrorSink}
use Rattle.olk_errors.specs.declared.sink.Stop.{Stop}
use Rattle.olk_errors.proofs.Loops.{Turns, turns_as, WalkingEach, each_start, each_end, several_turn, last_turn}
use Rattle.olk_errors.proofs.Due.{one_branch}

-- a member, and what its nodes answer
pub record Asked (R N : Type 0) : Type 0 where
  pub answers : R → Name → Says
  pub means : N → Data → Question
  pub first : N → Bool → Data → Path → List Fault
  pub report : N → Bool → Data → Path → List Fault
  pub sides : Sides R N
  pub declared : Option (ℕ × N)
  pub name : Name
  pub value : Data

abbrev pub asked_member : {R N : Type 0} → (R → Name → Says) → (N → Data → Question) → (N → Bool → Data → Path → List Fault) → (N → Bool → Data → Path → List Fault) → Sides R N
    → Option (ℕ × N) → Name → Data → Asked R N
asked_member answers m s r S d x v = record { answers = answers; means = m; first = s; report = r; sides = S; declared = d; name = x; value = v }

-- a node is put apart from those after it
put_apart : {N : Type 0} (b spoken : Bool) (n : N) (ms rest : List N)
    → put_if b n ms ++ cond (not spoken && is_empty (put_if b n ms)) rest [] ≡ put_if b n [] ++ (ms ++ cond (not (spoken || b) && is_empty ms) rest [])
put_apart true true n ms rest = refl
put_apart true false n ms rest = refl
put_apart false true n ms rest = refl
put_apart false false n ms rest = refl

spoken_now : {N : Type 0} (b spoken : Bool) (n : N) (ms : List N) → (not spoken && is_empty (put_if b n ms)) ≡ (not (spoken || b) && is_empty ms)
spoken_now true true n ms = refl
spoken_now true false n ms = refl
spoken_now false true n ms = refl
spoken_now false false n ms = refl

module _ {R N : Type 0} (w : Asked R N) where
  abbrev pub asks_at : N → Question
  asks_at n = w.means n w.value

  abbrev pub first_at : Path → Bool → N → List Fault
  first_at Q u n = w.first n u w.value (Q // w.name)

  abbrev pub report_at : Path → Bool → N → List Fault
  report_at Q u n = w.report n u w.value (Q // w.name)

  abbrev pub asked : Bool → List N
  asked u = asked_at w.answers u w.sides w.declared w.name

  abbrev pub alone : Bool → Bool
  alone u = unspoken_from w.answers u w.sides w.declared w.name (is_some w.declared) 0 w.sides.patterns

  abbrev pub unexpected : Bool → Bool
  unexpected u = unexpected_at w.answers u w.sides w.declared w.name

  abbrev pub outcome : Bool → Path → List N → Outcome
  outcome u Q ns = of_branches w.means w.first w.report u ns w.value (Q // w.name)

  -- the patterns that are left at an index, and then the rest
  abbrev pub asked_left : Bool → Bool → ℕ → List N
  asked_left u spoken i = asked_from w.answers u w.sides w.declared w.name spoken i (drop i w.sides.patterns)

  abbrev pub alone_left : Bool → Bool → ℕ → Bool
  alone_left u spoken i = unspoken_from w.answers u w.sides w.declared w.name spoken i (drop i w.sides.patterns)

  -- ---- at a pattern

  module _ (u spoken : Bool) (i : ℕ) where
    module _ {e : CompiledPattern R × N} (here : drop i w.sides.patterns ≡ e ∷ drop (i + 1) w.sides.patterns) {known : Says} (is : known ≡ known_at w.sides w.declared i) where
      abbrev matched : Bool
      matched = is_matched_by w.answers w.sides w.declared w.name u i e.0

      abbrev after : List N
      after = matching_from w.answers w.sides w.declared w.name u (i + 1) (drop (i + 1) w.sides.patterns)

      as_known : matched ≡ reads_as u (known_or known (pattern_answers w.answers e.0 w.name))
      as_known = sym (λ j. reads_as u (known_or (is j) (pattern_answers w.answers e.0 w.name)))

      module _ {b : Bool} (told : b ≡ reads_as u (known_or known (pattern_answers w.answers e.0 w.name))) where
        pub asked_here : asked_left u spoken i ≡ if_matched w.answers u known e.0 e.1 w.name ++ asked_left u (spoken || b) (i + 1)
        asked_here = ap (λ l. asked_from w.answers u w.sides w.declared w.name spoken i l) here
            ∙ put_apart matched spoken e.1 after (option_to_list w.sides.rest)
            ∙ (λ j. put_if (as_known j) e.1 [] ++ asked_left u (spoken || (as_known ∙ sym told) j) (i + 1))

        pub alone_here : alone_left u spoken i ≡ alone_left u (spoken || b) (i + 1)
        alone_here = ap (λ l. unspoken_from w.answers u w.sides w.declared w.name spoken i l) here
            ∙ spoken_now matched spoken e.1 after
            ∙ ap (λ c. alone_left u (spoken || c) (i + 1)) (as_known ∙ sym told)

    -- ---- after the patterns

    module _ (none : drop i w.sides.patterns ≡ []) where
      alone_end : alone_left u spoken i ≡ not spoken
      alone_end = ap (λ l. unspoken_from w.answers u w.sides w.declared w.name spoken i l) none ∙ and-true (not spoken)

      asked_end : asked_left u spoken i ≡ cond (not spoken) (option_to_list w.sides.rest) []
      asked_end = ap (λ l. asked_from w.answers u w.sides w.declared w.name spoken i l) none ∙ ap (λ b. cond b (option_to_list w.sides.rest) []) (and-true (not spoken))

      pub none_left : spoken ≡ true → asked_left u spoken i ≡ []
      none_left e = asked_end ∙ ap (λ b. cond (not b) (option_to_list w.sides.rest) []) e

      pub rest_left : spoken ≡ false → asked_left u spoken i ≡ option_to_list w.sides.rest ++ []
      rest_left e = asked_end ∙ ap (λ b. cond (not b) (option_to_list w.sides.rest) []) e ∙ sym (append-nil (option_to_list w.sides.rest))

      module _ (so_far : alone u ≡ alone_left u spoken i) where
        expected : spoken ≡ true → false ≡ unexpected u
        expected e = sym (ap (λ b. is_none w.sides.rest && b) (so_far ∙ alone_end ∙ ap not e) ∙ and-false (is_none w.sides.rest))

        left_to_rest : {b : Bool} → spoken ≡ false → b ≡ is_none w.sides.rest → b ≡ unexpected u
        left_to_rest e is = is ∙ sym (ap (λ b. is_none w.sides.rest && b) (so_far ∙ alone_end ∙ ap not e) ∙ and-true (is_none w.sides.rest))

  -- ---- the walk

  -- the patterns from an index on are still to be asked
  pub record WalkingMember (Q : Path) (spoken : Bool) (i : ℕ) (old new : ErrorSink) (a b : Asking) : Type 0 where
    pub walking : WalkingEach asks_at (first_at Q) (report_at Q) asked (λ u. asked_left u spoken i) old new a b
    pub so_far : (u : Bool) → IsAnswer a b u → alone u ≡ alone_left u spoken i

  abbrev whole : Bool → Path → Outcome
  whole u Q = outcome u Q (asked u)

  pub named_turn : (Q : Path) {a b : Asking} {old new : ErrorSink} {spoken : Bool} {T : Type 0} {r : Result T Stop} → spoken ≡ is_some w.declared
      → Walks r old new a b (λ u. outcome u Q (declared_nodes w.declared)) → Turns r (WalkingMember Q spoken 0 old new a b) (Walks r old new a b (λ u. whole u Q))
  named_turn Q {a} {b} {old} {new} {r = r} e h = turns_as r (λ walking. subst (λ s. WalkingMember Q s 0 old new a b) (sym e) (record { walking = walking; so_far = λ u so. refl })) (λ left. left)
      (several_turn {q = asks_at} {s = first_at Q} {f = report_at Q} (each_start {all = asked}) (λ u. declared_nodes w.declared) (λ u. asked_left u (is_some w.declared) 0) (λ u so. refl) h)

  module _ {Q : Path} {a : Asking} {old : ErrorSink} {spoken : Bool} {i : ℕ} {new : ErrorSink} {b : Asking} (loop : WalkingMember Q spoken i old new a b) where
    pub pattern_turn : {e : CompiledPattern R × N} → drop i w.sides.patterns ≡ e ∷ drop (i + 1) w.sides.patterns → {known : Says} → known ≡ known_at w.sides w.declared i
        → {newer : ErrorSink} {c : Asking} {m : Bool} → ((u : Bool) → IsAnswer b c u → m ≡ reads_as u (known_or known (pattern_answers w.answers e.0 w.name))) → {T : Type 0} {r : Result T Stop}
        → Walks r new newer b c (λ u. outcome u Q (if_matched w.answers u known e.0 e.1 w.name))
        → Turns r (WalkingMember Q (spoken || m) (i + 1) old newer a c) (Walks r old newer a c (λ u. whole u Q))
    pattern_turn {e} here {known} is {m = m} told {r = r} h = turns_as r
        (λ walking. record {
          walking = walking;
          so_far = λ u so. loop.so_far u (answer_first loop.walking.only h.only so) ∙ alone_here u spoken i here is (told u (answer_then loop.walking.only h.only so));
        }) (λ left. left)
        (several_turn loop.walking (λ u. if_matched w.answers u known e.0 e.1 w.name) (λ u. asked_left u (spoken || m) (i + 1)) (λ u so. asked_here u spoken i here is (told u so)) h)

    -- where the walk is left there, nothing is told
    pub pattern_left : {e : CompiledPattern R × N} → drop i w.sides.patterns ≡ e ∷ drop (i + 1) w.sides.patterns → {known : Says} → known ≡ known_at w.sides w.declared i
        → {newer : ErrorSink} {c : Asking} {T : Type 0} {t : Stop} → Walks {T = T} (Err t) new newer b c (λ u. outcome u Q (if_matched w.answers u known e.0 e.1 w.name))
        → Walks {T = T} (Err t) old newer a c (λ u. whole u Q)
    pattern_left {e} here {known} is h = several_turn loop.walking (λ u. if_matched w.answers u known e.0 e.1 w.name)
        (λ u. asked_left u (spoken || reads_as u (known_or known (pattern_answers w.answers e.0 w.name))) (i + 1)) (λ u so. asked_here u spoken i here is refl) h

    module _ (none : drop i w.sides.patterns ≡ []) where
      pub spoken_expected : spoken ≡ true → (u : Bool) → IsAnswer a b u → false ≡ unexpected u
      spoken_expected e u so = expected u spoken i none (loop.so_far u so) e

      pub rest_unexpected : {c : Asking} {m : Bool} → OnlyAsks b c → spoken ≡ false → m ≡ is_none w.sides.rest → (u : Bool) → IsAnswer a c u → m ≡ unexpected u
      rest_unexpected only e is u so = left_to_rest u spoken i none (loop.so_far u (answer_first loop.walking.only only so)) e is

      pub spoken_end : {T : Type 0} {y : T} → spoken ≡ true → Walks (Ok y) old new a b (λ u. whole u Q)
      spoken_end e = each_end loop.walking (λ u so. none_left u spoken i none e)

      pub rest_end : {newer : ErrorSink} {c : Asking} {T : Type 0} {r : Result T Stop} → spoken ≡ false → Walks r new newer b c (λ u. outcome u Q (option_to_list w.sides.rest))
          → Walks r old newer a c (λ u. whole u Q)
      rest_end {r = r} e h = last_turn asks_at (first_at Q) (report_at Q) asked r
          (several_turn loop.walking (λ u. option_to_list w.sides.rest) (λ u. []) (λ u so. rest_left u spoken i none e) h)

-- ---- of a single node

-- where the pattern says b of the name
pub if_matched_is : {N : Type 0} (u costs : Bool) (known s : Says) (n : N) {b : Bool} → b ≡ (known_or_asked known (said_to costs s)).accepts u
    → put_if (reads_as u (known_or known s)) n [] ≡ put_if b n []
if_matched_is u costs known s n told = ap (λ b. put_if b n []) (sym (told ∙ match_is_said u costs known s))

module _ {N : Type 0} (m : N → Data → Question) (s r : N → Bool → Data → Path → List Fault) (v : Data) (Q : Path) {ns : List N} where
  pub one_alone : (u : Bool) {n : N} → ns ≡ n ∷ [] → of_node m s r u n v Q ≡ of_branches m s r u ns v Q
  one_alone u {n} one = one_branch m s r u v Q n ∙ ap (λ l. of_branches m s r u l v Q) (sym one)
