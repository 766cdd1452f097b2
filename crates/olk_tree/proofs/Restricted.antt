-- `additionalProperties` over nodes that stand for schemas answers what is asked of the raw data.
use Rattle.std.specs.Prelude.{◌≡◌, Bool, true, false, not, cond, ◌&&◌, ◌||◌, List, [], ◌∷◌, ◌++◌, map, codes, Option, Some, None, is_none}
use Rattle.std.specs.List.{list_all, flat_map}
use Rattle.std.proofs.Common.{refl, sym, ap, ◌∙◌}
use Rattle.std.proofs.lemmas.Grind.{flat_map-append}
use Rattle.std.proofs.lemmas.List.{append_assoc, append-nil, map-append}
use Rattle.std.proofs.lemmas.List.Folds.{list_all-append, list_all-map}
use Rattle.olk_meaning.proofs.PropertyNames.{false_is_no_object}
use mathlib.Core.Bool.{true≢false}
use Rattle.serde_json.specs.Data.{Data, boolean, Members}
use Rattle.olk_spec.specs.Names.{Name, Path, ◌//◌, filter_once, put_if, is_empty}
use Rattle.olk_spec.specs.World.{World}
use Rattle.olk_spec.specs.Faults.{Fault, ◌∼◌, like_through}
use Rattle.olk_spec.specs.Schemas.{is_object, is_truth, members}
use Rattle.olk_spec.specs.Reports.{unexpected_faults}
use Rattle.olk_meaning.specs.Steps.{Steps, accepts, report, tree}
use Rattle.olk_meaning.proofs.Facts.{accepts_no_object}
use Rattle.olk_spec.specs.Tree.{Tree, node, no_tree, described, result}
use Rattle.olk_spec.proofs.Maps.{flat_map-map, map-map}
use Rattle.olk_spec.proofs.Order.{∼_append, ∼_same, ∼_flat_map_any}
use Rattle.olk_base.specs.Kit.{Kit}
use Rattle.olk_tree.specs.Steps.{StepsOf}
use Rattle.olk_meaning.specs.AdditionalProperties.{declared_at, matching_at, is_other, other_members, declared_accepts, matching_accept, each_accepts, declared_report, matching_report, rest_report, each_report, others_report, each_shown, names_matched, other_names, declared_beside, patterns_beside, declares_beside, matches_beside, required_child, restriction_shown}
use Rattle.olk_tree.specs.Questions.{every}
use Rattle.olk_tree.specs.Additional.{Sides, nodes_asked, is_unexpected, unexpected, member_means, means_in_turn, member_report, report_in_turn, additional_names, matched_names, additional_tree}
use Rattle.olk_tree.specs.AdditionalAgreement.{member_accepted}
use Rattle.olk_tree.specs.Sides.{RestAnswers, SidesStand}
use Rattle.olk_tree.proofs.Answering.{all_accept, all_find, all_show, same_marks}
use Rattle.olk_tree.proofs.AskedSchemas.{is_rest, is_no_rest, nodes_matching_answer, is_additional_other, pattern_schema, declared_schema, declared_schemas, matching_schemas, rest_schemas, other_schemas, asked_schemas, asked_answer}
use Rattle.olk_meaning.proofs.Rows.{Rows}

false_refuses : {W : World} (I : Steps W) (u : Bool) (d v : Data) → is_truth false d ≡ true → accepts I u d v ≡ false
false_refuses I u (boolean false) v e = accepts_no_object I u (boolean false) v refl
false_refuses I u _ v e = absurd (true≢false (sym e))

and_regroup : (a b c e : Bool) → ((a && (b && c)) && e) ≡ (a && b && (c && e))
and_regroup true true c e = refl
and_regroup _ _ c e = refl

module _ {K R N : Type 0} {o : Kit K R} {I : StepsOf o} {m : _} {r : _} {t : _} {S : Sides R N} {fs es : Rows} {d : Data} {P : Path} (h : SidesStand I m r t S fs es d P) (u : Bool) where
  abbrev at_rest : Path
  at_rest = P // codes "additionalProperties"

  -- ---- whether it accepts

  pub rest_accepted : (n : Name) (v : Data) → (list_all (λ s. accepts I.steps u s.0 v) (rest_schemas h n u) && not (is_unexpected o.answers S u n)) ≡
      (not (is_other o.world u fs es n) || accepts I.steps u d v)
  rest_accepted n v = (λ i. list_all accepted (rest_schemas h n u) && not (is_none S.rest && is_additional_other h n u i)) ∙ by S.rest h.rest _
    where
      accepted : Data × Path → Bool
      accepted s = accepts I.steps u s.0 v

      accepted_if : Bool → Bool
      accepted_if b = list_all accepted (put_if b (d, at_rest) [])

      by : (x : Option N) → RestAnswers I m r t x d at_rest → (b : Bool) → (accepted_if (is_object d && b) && not (is_none x && b)) ≡ (not b || accepts I.steps u d v)
      by None g true = (λ i. accepted_if (false_is_no_object d g i && true) && false) ∙ sym (false_refuses I.steps u d v g)
      by None g false = λ i. accepted_if (false_is_no_object d g i && false) && true
      by (Some x) g true = (λ i. accepted_if (g.0 i && true) && true) ∙ alone _
        where
          alone : (a : Bool) → ((a && true) && true) ≡ a
          alone true = refl
          alone false = refl
      by (Some x) g false = λ i. accepted_if (g.0 i && false) && true

  module _ (x : Name × Data) where
    abbrev pub accept : Data × Path → Bool
    accept s = accepts I.steps u s.0 x.1

    pub accepted_by_others : list_all accept (other_schemas h x.0 u) ≡ (matching_accept I.steps u fs es x && list_all accept (rest_schemas h x.0 u))
    accepted_by_others =
        list_all-append accept (matching_schemas h x.0 u) _ ∙ ap (λ b. b && list_all accept (rest_schemas h x.0 u)) (list_all-map accept _ (matching_at o.world u es x.0))

    accepted_by_part : list_all accept (asked_schemas h x.0 u) ≡
        (declared_accepts I.steps u fs es x && (matching_accept I.steps u fs es x && list_all accept (rest_schemas h x.0 u)))
    accepted_by_part = list_all-append accept _ _ ∙ (λ i. list_all-map accept (declared_schema h x.0) (declared_at fs x.0) i && accepted_by_others i)

    accepted_each : (member_means o.answers o.costs m S x.0 x.1).accepts u ≡ each_accepts I.steps u fs es d x
    accepted_each = member_accepted o.answers o.costs m S x.0 x.1 u
        ∙ (λ i. (all_accept I m r t u x.1 _ _ (asked_answer h x.0 u) ∙ accepted_by_part) i && not (is_unexpected o.answers S u x.0))
        ∙ and_regroup (declared_accepts I.steps u fs es x) (matching_accept I.steps u fs es x) _ _
        ∙ ap (λ b. declared_accepts I.steps u fs es x && matching_accept I.steps u fs es x && b) (rest_accepted x.0 x.1)

  -- it accepts where each member is accepted
  pub restricted_accepts : (v : Data) → (means_in_turn o.answers o.costs m S v).accepts u ≡ list_all (each_accepts I.steps u fs es d) (members v)
  restricted_accepts v = along _
    where
      along : (xs : Rows) → (every (λ x. member_means o.answers o.costs m S x.0 x.1) xs).accepts u ≡ list_all (each_accepts I.steps u fs es d) xs
      along [] = refl
      along (x ∷ xs) = λ i. accepted_each x i && along xs i

  -- ---- which members are others

  pub restricted_names : (v : Data) (Q : Path) → additional_names o.answers S u v Q ≡ other_names o.world u fs es v
  restricted_names v Q = λ i. map (λ x. x.0) (filter_once (λ x. is_additional_other h x.0 u i) (members v))

  pub restricted_matches : (v : Data) (Q : Path) → matched_names o.answers S u v Q ≡ names_matched o.world u fs es v
  restricted_matches v Q =
      λ i. flat_map (λ x. (same_marks I m r t x.0 _ _ (nodes_matching_answer h x.0 u) ∙ map-map (λ s. x.0) (λ e. x.0) _ (λ e. refl) (matching_at o.world u es x.0)) i) (members v)

  -- where the rest is false, none of them is expected
  pub restricted_unexpected : (v : Data) → unexpected o.answers S u v ≡ cond (is_truth false d) (other_members o.world u fs es v) []
  restricted_unexpected v = (λ i. filter_once (λ x. is_no_rest h i && is_additional_other h x.0 u i) (members v)) ∙ by (is_truth false d)
    where
      none : (xs : Rows) → filter_once (λ x. false) xs ≡ []
      none [] = refl
      none (x ∷ xs) = none xs

      by : (b : Bool) → filter_once (λ x. b && is_other o.world u fs es x.0) (members v) ≡ cond b (other_members o.world u fs es v) []
      by true = refl
      by false = none (members v)

  module _ (named : Bool) (v : Data) (Q : Path) where
    pub faults_of_others : unexpected_faults named (unexpected o.answers S u v) v at_rest Q ≡ others_report o.world u fs es P Q named d v
    faults_of_others = ap (λ xs. unexpected_faults named xs v at_rest Q) (restricted_unexpected v) ∙ by (is_truth false d)
      where
        by : (b : Bool) → unexpected_faults named (cond b (other_members o.world u fs es v) []) v at_rest Q ≡ cond b
            (unexpected_faults named (other_members o.world u fs es v) v at_rest Q) []
        by true = refl
        by false = refl

  -- ---- what it finds

  module _ (x : Name × Data) (Q : Path) where
    abbrev pub finds : Data × Path → List Fault
    finds s = report I.steps u s.0 x.1 s.1 (Q // x.0)

    pub found_by_others : flat_map finds (other_schemas h x.0 u) ≡ matching_report I.steps u fs es P Q x ++ rest_report I.steps u fs es P Q d x
    found_by_others = flat_map-append finds (matching_schemas h x.0 u) _
        ∙ (λ i. flat_map-map finds _ (pattern_schema h) (λ e. refl) (matching_at o.world u es x.0) i ++ of_rest (is_object d) (is_other o.world u fs es x.0) i)
      where
        of_rest : (a b : Bool) → flat_map finds (put_if (a && b) (d, at_rest) []) ≡ cond b (cond a (finds (d, at_rest)) []) []
        of_rest true true = append-nil _
        of_rest true false = refl
        of_rest false true = refl
        of_rest false false = refl

    found_by_part : flat_map finds (asked_schemas h x.0 u) ≡ each_report I.steps u fs es P Q d x
    found_by_part = flat_map-append finds (declared_schemas h x.0 u) _ ∙ (λ i. flat_map-map finds _ (declared_schema h x.0) (λ s. refl) (declared_at fs x.0) i ++ found_by_others i)
        ∙ sym (append_assoc (declared_report I.steps u fs es P Q x) _ _)

    found_each : (v : Data) → member_report o.answers S u v Q r x ∼ each_report I.steps u fs es P Q d x
    found_each v = like_through (all_find I m r t u x.1 _ _ _ (asked_answer h x.0 u)) (∼_same found_by_part)

  -- it finds what is found in each member, and the members that are not expected
  pub restricted_finds : (named : Bool) (v : Data) (Q : Path) → report_in_turn o.answers S u v Q named at_rest r ∼ flat_map
      (each_report I.steps u fs es P Q d) (members v) ++ others_report o.world u fs es P Q named d v
  restricted_finds named v Q = ∼_append (∼_flat_map_any _ _ (λ x. found_each x Q v) (members v)) (∼_same (faults_of_others named v Q))

  -- ---- what it shows

  module _ (x : Name × Data) (Q : Path) where
    abbrev showing : Data × Path → Tree
    showing s = tree I.steps u s.0 x.1 s.1 (Q // x.0)

    shown_by_part : map showing (asked_schemas h x.0 u) ≡ each_shown I.steps u fs es P Q d x
    shown_by_part = map-append showing (declared_schemas h x.0 u) _ ∙ ap (λ l. map showing (declared_schemas h x.0 u) ++ l) (map-append showing (matching_schemas h x.0 u) _)
        ∙ sym (append_assoc (map showing (declared_schemas h x.0 u)) (map showing (matching_schemas h x.0 u)) _)
        ∙ (λ i. map-map showing _ (declared_schema h x.0) (λ s. refl) (declared_at fs x.0) i ++ map-map showing _ (pattern_schema h) (λ e. refl) (matching_at o.world u es x.0) i
        ++ of_rest (is_object d && is_other o.world u fs es x.0) i)
      where
        of_rest : (b : Bool) → map showing (put_if b (d, at_rest) []) ≡ put_if b (showing (d, at_rest)) []
        of_rest true = refl
        of_rest false = refl

    shown_each : map (λ n. t n u x.1 (Q // x.0)) (nodes_asked o.answers S u x.0) ≡ each_shown I.steps u fs es P Q d x
    shown_each = all_show I m r t u x.1 _ _ _ (asked_answer h x.0 u) ∙ shown_by_part

  pub restricted_children : (v : Data) (Q : Path) → flat_map (λ x. map (λ n. t n u x.1 (Q // x.0)) (nodes_asked o.answers S u x.0)) (members v) ≡ flat_map
      (each_shown I.steps u fs es P Q d) (members v)
  restricted_children v Q = λ i. flat_map (λ x. shown_each x Q i) (members v)

-- beside the members of a schema object it shows what is shown of them
module _ {K R N : Type 0} {o : Kit K R} {I : StepsOf o} {m : _} {r : _} {t : _} (ms : Members) {S : Sides R N} {d : Data} {P : Path}
    (h : SidesStand I m r t S (declared_beside ms) (patterns_beside ms) d P) (u : Bool) (v : Data) (Q : Path) where
  pub restricted_shows : (declares has_patterns : Bool) (A M : Path) (more : List Tree) → declares ≡ declares_beside ms → has_patterns ≡ matches_beside ms
      → A ≡ P // codes "additionalProperties" → M ≡ P // codes "patternProperties" → more ≡ required_child ms v P Q
      → additional_tree o.answers S u v Q declares has_patterns A M (λ n. t n u) more ≡ restriction_shown I.steps u ms v d P Q
  restricted_shows declares has_patterns A M more declares_same patterns_same rest_place patterns_place more_same =
      (λ i. additional_tree o.answers S u v Q (declares_same i) (patterns_same i) (rest_place i) (patterns_place i) (λ n. t n u) (more_same i))
      ∙ (λ i. result (P // codes "additionalProperties") Q
      (cond (is_object v && (is_rest h i && (cond (declares_beside ms) (matches_beside ms) (not (matches_beside ms)) || not (is_empty (restricted_names h u v Q i)))))
      (Some (restricted_names h u v Q i)) None)
      false
      (described (faults_of_others h u (declares_beside ms || matches_beside ms) v Q i))
      (restricted_children h u v Q i
      ++ put_if (matches_beside ms && not (declares_beside ms) && not (is_empty (restricted_matches h u v Q i)))
      (node (P // codes "patternProperties") Q true (Some (restricted_matches h u v Q i)) [] no_tree) []
      ++ required_child ms v P Q))
