-- What `additionalProperties` finds is empty exactly where it accepts, and so is its first step that refuses, if that is so of its nodes.
use Rattle.std.specs.Prelude.{◌≡◌, ℕ, ◌+◌, Bool, true, false, not, ◌&&◌, cond, List, [], ◌∷◌, ◌++◌, Option, Some, None, is_none, option_map, option_to_list}
use Rattle.std.specs.List.{flat_map}
use Rattle.std.proofs.Common.{refl, sym, ap, ◌∙◌}
use Rattle.std.proofs.Math.Bool.{and_assoc}
use Rattle.olk_spec.proofs.Tree_verdicts.{none_missing}
use Rattle.olk_spec.proofs.Walks.{and_middle}
use Rattle.serde_json.specs.Data.{Data}
use Rattle.olk_spec.specs.Names.{Name, Path, ◌//◌, filter_once, put_if, is_empty}
use Rattle.olk_spec.specs.World.{Says, matched, unmatched, unfinished, reads_as}
use Rattle.olk_spec.specs.Faults.{Fault}
use Rattle.olk_spec.specs.Schemas.{members, at}
use Rattle.olk_spec.specs.Accepts.{missing}
use Rattle.olk_spec.specs.Reports.{unexpected_faults}
use Rattle.olk_spec.proofs.Verdicts.{is_empty-append}
use Rattle.olk_base.specs.Compiled.{pattern_answers, pattern_costs}
use Rattle.olk_base.specs.declared.pattern.CompiledPattern.{CompiledPattern}
use Rattle.olk_tree.specs.Questions.{Question, always, said_to, both, every}
use Rattle.olk_tree.specs.Firsts.{or_else, first_of}
use Rattle.olk_tree.specs.Additional.{Held, Sides, known_at, known_or, known_or_asked, matching_from, at_name, others_asked, nodes_asked, is_unexpected, unexpected, repeats, rest_means, patterns_mean_from, member_means_at, member_means, means_in_turn, others_mean, named_means, additional_means, member_report, others_report, report_in_turn, named_report, additional_report, member_first, others_first, first_in_turn, named_first, additional_first, sides_of, has_neighbours, required_text, required_place, lacks}
use Rattle.olk_tree.specs.Emptiness.{each_agrees, both_agree, or_else_agrees, first_of_agrees}

and_true : (a : Bool) → a ≡ ((a && true) && true)
and_true true = refl
and_true false = refl

not_none : {N : Type 0} (o : Option N) → true ≡ not (is_none o && false)
not_none None = refl
not_none (Some x) = refl

-- a match that is asked is the match that is meant
pub match_is_said : (u costs : Bool) (known s : Says) → (known_or_asked known (said_to costs s)).accepts u ≡ reads_as u (known_or known s)
match_is_said u costs matched s = refl
match_is_said u costs unmatched s = refl
match_is_said u costs unfinished s = refl

module _ {R N : Type 0} (answers : R → Name → Says) (costs : R → Bool) (m : N → Data → Question) (S : Sides R N) (n : Name) (x : Data) (u : Bool) where
  -- the rest is asked, or refuses, where nothing else speaks of the member
  abbrev asked_last : Bool → List N → List N
  asked_last alone ns = ns ++ cond alone (option_to_list S.rest) []

  abbrev all_accept : Bool → List N → Bool
  all_accept alone ns = (every (λ e. m e x) (asked_last alone ns)).accepts u && not (is_none S.rest && alone)

  -- these nodes, and where they are none and nothing else speaks of the member the rest
  abbrev all_or_rest : Bool → List N → Bool
  all_or_rest spoken ns = all_accept (not spoken && is_empty ns) ns

  one_more : (spoken b : Bool) (e : N) (ns : List N) (a later : Bool) → a ≡ all_accept false ns → later ≡ all_or_rest spoken ns → cond b ((m e x).accepts u && a) later ≡ all_or_rest spoken (put_if b e ns)
  one_more true true e ns a later h g = ap (λ a. (m e x).accepts u && a) h ∙ sym (and_assoc ((m e x).accepts u) _ _)
  one_more false true e ns a later h g = ap (λ a. (m e x).accepts u && a) h ∙ sym (and_assoc ((m e x).accepts u) _ _)
  one_more spoken false e ns a later h g = g

  module _ (d : Option (ℕ × N)) where
    abbrev accepts_from : Bool → ℕ → List (CompiledPattern R × N) → Bool
    accepts_from spoken i es = (patterns_mean_from answers costs m S d n x spoken i es).accepts u

    patterns_accept : (spoken : Bool) (i : ℕ) (es : List (CompiledPattern R × N)) → accepts_from spoken i es ≡ all_or_rest spoken (matching_from answers S d n u i es)
    patterns_accept true i [] = not_none S.rest
    patterns_accept false i [] = by S.rest
      where
        by : (o : Option N) → (rest_means m x o).accepts u ≡ ((every (λ e. m e x) (option_to_list o)).accepts u && not (is_none o && true))
        by None = refl
        by (Some r) = and_true _
    patterns_accept spoken i (e ∷ es) =
        ap (λ b. cond b ((m e.1 x).accepts u && accepts_from true (i + 1) es) (accepts_from spoken (i + 1) es)) (match_is_said u (pattern_costs costs e.0) (known_at S d i) (pattern_answers answers e.0 n))
        ∙ one_more spoken _ e.1 _ _ _ (patterns_accept true _ es) (patterns_accept spoken _ es)

  member_accepts_at : (d : Option (ℕ × N)) → (member_means_at answers costs m S d n x).accepts u ≡ ((every (λ e. m e x) (option_to_list (option_map (λ f. f.1) d) ++ asked_last (is_none d && is_empty (matching_from answers S d n u 0 S.patterns)) (matching_from answers S d n u 0 S.patterns))).accepts u && not (is_none S.rest && (is_none d && is_empty (matching_from answers S d n u 0 S.patterns))))
  member_accepts_at None = patterns_accept None false 0 S.patterns
  member_accepts_at (Some f) = ap (λ a. (m f.1 x).accepts u && a) (patterns_accept (Some f) true 0 S.patterns) ∙ sym (and_assoc ((m f.1 x).accepts u) _ _)

  -- a member is accepted where each node accepts that is asked, and where it is expected
  pub others_accepted : (others_mean answers costs m S n x).accepts u ≡ ((every (λ e. m e x) (others_asked answers S u n)).accepts u && not (is_unexpected answers S u n))
  others_accepted = patterns_accept (at_name S n) _ 0 S.patterns

  pub member_accepted : (member_means answers costs m S n x).accepts u ≡ ((every (λ e. m e x) (nodes_asked answers S u n)).accepts u && not (is_unexpected answers S u n))
  member_accepted = member_accepts_at (at_name S n)

module _ (named : Bool) (v : Data) (P Q : Path) where
  unexpected_agree : (xs : List (Name × Data)) → is_empty (unexpected_faults named xs v P Q) ≡ is_empty xs
  unexpected_agree [] = refl
  unexpected_agree (x ∷ xs) = by named
    where
      by : (b : Bool) → is_empty (unexpected_faults b (x ∷ xs) v P Q) ≡ false
      by true = refl
      by false = refl

  unexpected_if : (b : Bool) (x : Name × Data) → is_empty (cond b (unexpected_faults named (x ∷ []) v P Q) []) ≡ not b
  unexpected_if true x = unexpected_agree (x ∷ [])
  unexpected_if false x = refl

-- what is found at each of a list and the list of those that pass a test are empty where each accepts
each_and_none : {X : Type 0} (f : X → List Fault) (p : X → Bool) (q : X → Question) (u : Bool) → ((x : X) → (is_empty (f x) && not (p x)) ≡ (q x).accepts u) → (xs : List X) → (is_empty (flat_map f xs) && is_empty (filter_once p xs)) ≡ (every q xs).accepts u
each_and_none f p q u h [] = refl
each_and_none f p q u h (x ∷ xs) = (λ i. is_empty-append (f x) (flat_map f xs) i && none_more (p x) i)
    ∙ and_middle (is_empty (f x)) _ (not (p x)) _
    ∙ (λ i. h x i && each_and_none f p q u h xs i)
  where
    none_more : (b : Bool) → is_empty (put_if b x (filter_once p xs)) ≡ (not b && is_empty (filter_once p xs))
    none_more true = refl
    none_more false = refl

module _ {R N : Type 0} (answers : R → Name → Says) (costs : R → Bool) (m : N → Data → Question) (u : Bool) where
  module _ (r : N → Bool → Data → Path → List Fault) (h : (n : N) (v : Data) (Q : Path) → is_empty (r n u v Q) ≡ (m n v).accepts u) (S : Sides R N) (v : Data) (Q : Path) where
    asked_agree : (x : Name × Data) → is_empty (member_report answers S u v Q r x) ≡ (every (λ e. m e x.1) (nodes_asked answers S u x.0)).accepts u
    asked_agree x = each_agrees _ _ u (λ e. h e x.1 (Q // x.0)) (nodes_asked answers S u x.0)

    member_agrees : (x : Name × Data) → (is_empty (member_report answers S u v Q r x) && not (is_unexpected answers S u x.0)) ≡ (member_means answers costs m S x.0 x.1).accepts u
    member_agrees x = (λ i. asked_agree x i && not (is_unexpected answers S u x.0)) ∙ sym (member_accepted answers costs m S x.0 x.1 u)

    -- what is found at the members, and those that are not expected
    with_unexpected : (f : Name × Data → List Fault) (q : Name × Data → Question) → ((x : Name × Data) → (is_empty (f x) && not (is_unexpected answers S u x.0)) ≡ (q x).accepts u)
        → (named : Bool) (P : Path) → is_empty (flat_map f (members v) ++ unexpected_faults named (unexpected answers S u v) v P Q) ≡ (every q (members v)).accepts u
    with_unexpected f q agrees named P =
        is_empty-append (flat_map f (members v)) _ ∙ ap (λ b. is_empty (flat_map f (members v)) && b) (unexpected_agree named v P Q (unexpected answers S u v)) ∙ each_and_none f _ q u agrees (members v)

    report_in_turn_agrees : (named : Bool) (P : Path) → is_empty (report_in_turn answers S u v Q named P r) ≡ (means_in_turn answers costs m S v).accepts u
    report_in_turn_agrees = with_unexpected _ _ member_agrees

    others_agree : (x : Name × Data) → (is_empty (others_report answers S u v Q r x) && not (is_unexpected answers S u x.0)) ≡ (others_mean answers costs m S x.0 x.1).accepts u
    others_agree x = ap (λ b. b && not (is_unexpected answers S u x.0)) (each_agrees _ _ u (λ e. h e x.1 (Q // x.0)) (others_asked answers S u x.0)) ∙ sym (others_accepted answers costs m S x.0 x.1 u)

    named_report_agrees : (named : Bool) (P : Path) → is_empty (named_report answers S u v Q named P r) ≡ (named_means answers costs m S v).accepts u
    named_report_agrees named P = both_agree (flat_map (λ e. flat_map (λ w. r e.1.1 u w (Q // e.0)) (at e.0 v)) S.declared) _
        (each_agrees _ _ u (λ e. each_agrees _ (m e.1.1) u (λ w. h e.1.1 w (Q // e.0)) (at e.0 v)) S.declared) (with_unexpected (others_report answers S u v Q r) _ others_agree named P)

    pub members_agree : (named : Bool) (P : Path) → is_empty (additional_report answers S u v Q named P r) ≡ (additional_means answers costs m S v).accepts u
    members_agree named P = by (repeats v)
      where
        by : (b : Bool) → is_empty (cond b (named_report answers S u v Q named P r) (report_in_turn answers S u v Q named P r)) ≡ (cond b (named_means answers costs m S v) (means_in_turn answers costs m S v)).accepts u
        by true = named_report_agrees named P
        by false = report_in_turn_agrees named P

    asked_first_agrees : (x : Name × Data) → is_empty (first_of (λ e. r e u x.1 (Q // x.0)) (nodes_asked answers S u x.0)) ≡ (every (λ e. m e x.1) (nodes_asked answers S u x.0)).accepts u
    asked_first_agrees x = first_of_agrees _ _ u (λ e. h e x.1 (Q // x.0)) (nodes_asked answers S u x.0)

    module _ (named : Bool) (P : Path) where
      pub member_first_agrees : (x : Name × Data) → is_empty (member_first answers S u v Q named P r x) ≡ (member_means answers costs m S x.0 x.1).accepts u
      member_first_agrees x = or_else_agrees _ _ (asked_first_agrees x) (unexpected_if named v P Q (is_unexpected answers S u x.0) x) ∙ sym (member_accepted answers costs m S x.0 x.1 u)

      others_first_agrees : (x : Name × Data) → is_empty (others_first answers S u v Q named P r x) ≡ (others_mean answers costs m S x.0 x.1).accepts u
      others_first_agrees x = or_else_agrees (first_of _ (others_asked answers S u x.0)) _
          (first_of_agrees _ _ u (λ e. h e x.1 (Q // x.0)) (others_asked answers S u x.0)) (unexpected_if named v P Q (is_unexpected answers S u x.0) x)
          ∙ sym (others_accepted answers costs m S x.0 x.1 u)

      named_first_agrees : is_empty (named_first answers S u v Q named P r) ≡ (named_means answers costs m S v).accepts u
      named_first_agrees = or_else_agrees (first_of (λ e. first_of (λ w. r e.1.1 u w (Q // e.0)) (at e.0 v)) S.declared) _
          (first_of_agrees _ _ u (λ e. first_of_agrees _ (m e.1.1) u (λ w. h e.1.1 w (Q // e.0)) (at e.0 v)) S.declared)
          (first_of_agrees _ _ u others_first_agrees (members v))

      first_in_turn_agrees : is_empty (first_in_turn answers S u v Q named P r) ≡ (means_in_turn answers costs m S v).accepts u
      first_in_turn_agrees = first_of_agrees _ _ u member_first_agrees (members v)

      pub members_first_agree : is_empty (additional_first answers S u v Q named P r) ≡ (additional_means answers costs m S v).accepts u
      members_first_agree = by (repeats v)
        where
          by : (b : Bool) → is_empty (cond b (named_first answers S u v Q named P r) (first_in_turn answers S u v Q named P r)) ≡ (cond b (named_means answers costs m S v) (means_in_turn answers costs m S v)).accepts u
          by true = named_first_agrees
          by false = first_in_turn_agrees

  module _ (r : N → Bool → Data → Path → List Fault) (h : (n : N) (v : Data) (Q : Path) → is_empty (r n u v Q) ≡ (m n v).accepts u) (k : Held R N) (v : Data) (Q : Path) where
    pub additional_agrees : is_empty (additional_report answers (sides_of k) u v Q (has_neighbours k) k.location r ++ lacks k.required v Q) ≡ (both (additional_means answers costs m (sides_of k) v) (always (is_empty (missing (required_text k.required) v)))).accepts u
    additional_agrees = both_agree (additional_report answers (sides_of k) u v Q _ _ r) _ (members_agree r h (sides_of k) v Q (has_neighbours k) k.location) (none_missing (required_text k.required) v (required_place k.required) Q)

    pub additional_first_agrees : is_empty (or_else (additional_first answers (sides_of k) u v Q (has_neighbours k) k.location r) (lacks k.required v Q)) ≡ (both (additional_means answers costs m (sides_of k) v) (always (is_empty (missing (required_text k.required) v)))).accepts u
    additional_first_agrees = or_else_agrees (additional_first answers (sides_of k) u v Q _ _ r) _ (members_first_agree r h (sides_of k) v Q (has_neighbours k) k.location) (none_missing (required_text k.required) v (required_place k.required) Q)
