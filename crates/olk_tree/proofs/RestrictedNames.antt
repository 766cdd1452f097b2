-- `additionalProperties` over nodes that stand for schemas, declared name by declared name, answers what is asked of the raw data.
use Rattle.std.specs.Prelude.{◌≡◌, ◌≤◌, ℕ, ◌+◌, Bool, not, ◌&&◌, List, [], ◌∷◌, ◌++◌, map, codes, sum_by, is_some}
use Rattle.std.specs.List.{list_all, flat_map, enumerate_from, zip}
use Rattle.std.proofs.Common.{refl, sym, ap, ◌∙◌, arith}
use Rattle.std.proofs.lemmas.List.{append_assoc}
use Rattle.std.proofs.lemmas.List.Sums.{sum_by-cons}
use Rattle.std.proofs.Math.Bool.{and_assoc}
use Rattle.serde_json.specs.Data.{Data}
use Rattle.olk_spec.specs.Names.{Name, Path, ◌//◌}
use Rattle.olk_spec.specs.Faults.{Fault, ◌∼◌, like_empty, like_through}
use Rattle.olk_spec.specs.Schemas.{members, at}
use Rattle.olk_meaning.specs.Steps.{accepts, asks, report}
use Rattle.olk_spec.specs.Tree.{Tree}
use Rattle.olk_spec.proofs.Order.{∼_append, ∼_same, ∼_flat_map_any}
use Rattle.olk_base.specs.Kit.{Kit}
use Rattle.olk_tree.specs.Steps.{StepsOf}
use Rattle.olk_meaning.specs.AdditionalProperties.{matching_accept, rest_accepts, matching_report, rest_report, others_report, patterns_asked, matching_asks, rest_asks}
use Rattle.olk_meaning.proofs.Facts.{sum_of_both}
use Rattle.olk_tree.specs.Questions.{Question, every, of_asked}
use Rattle.olk_tree.specs.Additional.{Sides, at_name, is_unexpected, others_mean, named_means, named_report, others_report as others_found}
use Rattle.olk_tree.specs.AdditionalAgreement.{others_accepted}
use Rattle.olk_tree.specs.Sides.{AnswersAs, EntriesAnswer, SidesStand}
use Rattle.olk_tree.proofs.Answering.{more_within, all_accept, all_ask, all_find}
use Rattle.olk_tree.proofs.AskedSchemas.{rest_schemas, others_answer}
use Rattle.olk_tree.proofs.Restricted.{rest_accepted, accepted_by_others, faults_of_others, found_by_others}
use Rattle.olk_tree.proofs.RestrictedAsks.{patterns_ask, asked_by_others, rest_within, matchers_for}
use Rattle.olk_meaning.proofs.Rows.{Rows}

-- ---- what is declared

module _ {K R N : Type 0} {o : Kit K R} (I : StepsOf o) (m : N → Data → Question) (r : N → Bool → Data → Path → List Fault) (t : N → Bool → Data → Path → Tree) where
  -- a node at one value after another
  module _ (n : N) (s : Data) (L : Path) (h : AnswersAs I m r t n s L) (u : Bool) where
    values_accept : (vs : List Data) → (every (m n) vs).accepts u ≡ list_all (accepts I.steps u s) vs
    values_accept [] = refl
    values_accept (v ∷ vs) = λ i. h.verdict u v i && values_accept vs i

    values_ask : (vs : List Data) → (every (m n) vs).asks of_asked u ≤ sum_by (asks I.steps u s) vs
    values_ask [] = omega arith
    values_ask (v ∷ vs) = more_within _ _ _ _ _ (h.asks_within u v) (values_ask vs) (sum_by-cons (asks I.steps u s) v vs)

  -- nodes under their names, with their places from k on
  module _ (L : Path) (u : Bool) (v : Data) where
    declared_accept : (k : ℕ) (ns : List N) (fs : Rows) → EntriesAnswer I m r t ns fs L
        → (every (λ e. every (m e.1.1) (at e.0 v)) (zip (map (λ e. e.0) fs) (enumerate_from k ns))).accepts u ≡ list_all (λ e. list_all (accepts I.steps u e.1) (at e.0 v)) fs
    declared_accept k [] [] h = refl
    declared_accept k (n ∷ ns) (e ∷ fs) h = λ i. values_accept n e.1 (L // e.0) h.0 u (at e.0 v) i && declared_accept (k + 1) ns fs h.1 i
    declared_accept k _ _ h = absurd h

    declared_ask : (k : ℕ) (ns : List N) (fs : Rows) → EntriesAnswer I m r t ns fs L
        → (every (λ e. every (m e.1.1) (at e.0 v)) (zip (map (λ e. e.0) fs) (enumerate_from k ns))).asks of_asked u ≤ sum_by (λ e. sum_by (asks I.steps u e.1) (at e.0 v)) fs
    declared_ask k [] [] h = omega arith
    declared_ask k (n ∷ ns) (e ∷ fs) h =
        more_within _ _ _ _ _ (values_ask n e.1 (L // e.0) h.0 u (at e.0 v)) (declared_ask (k + 1) ns fs h.1) (sum_by-cons (λ (e : Name × Data). sum_by (asks I.steps u e.1) (at e.0 v)) e fs)
    declared_ask k _ _ h = absurd h

    declared_find : (Q : Path) (k : ℕ) (ns : List N) (fs : Rows) → EntriesAnswer I m r t ns fs L
        → flat_map (λ e. flat_map (λ w. r e.1.1 u w (Q // e.0)) (at e.0 v)) (zip (map (λ e. e.0) fs) (enumerate_from k ns)) ∼ flat_map
        (λ e. flat_map (λ w. report I.steps u e.1 w (L // e.0) (Q // e.0)) (at e.0 v)) fs
    declared_find Q k [] [] h = like_empty
    declared_find Q k (n ∷ ns) (e ∷ fs) h = ∼_append (∼_flat_map_any _ _ (λ w. h.0.faults u w (Q // e.0)) (at e.0 v)) (declared_find Q (k + 1) ns fs h.1)
    declared_find Q k _ _ h = absurd h

-- ---- all

module _ {K R N : Type 0} {o : Kit K R} {I : StepsOf o} {m : _} {r : _} {t : _} {S : Sides R N} {fs es : Rows} {d : Data} {P : Path} (h : SidesStand I m r t S fs es d P) (u : Bool) where
  -- ---- whether it accepts

  -- a member, by the patterns and the rest
  abbrev others_accept_it : Name × Data → Bool
  others_accept_it x = matching_accept I.steps u fs es x && rest_accepts I.steps u fs es d x

  others_accept : (x : Name × Data) → (others_mean o.answers o.costs m S x.0 x.1).accepts u ≡ others_accept_it x
  others_accept x = others_accepted o.answers o.costs m S x.0 x.1 u
      ∙ (λ i. (all_accept I m r t u x.1 _ _ (others_answer h x.0 u) ∙ accepted_by_others h u x) i && not (is_unexpected o.answers S u x.0))
      ∙ and_assoc (matching_accept I.steps u fs es x) (list_all (λ s. accepts I.steps u s.0 x.1) (rest_schemas h x.0 u)) (not (is_unexpected o.answers S u x.0))
      ∙ ap (λ b. matching_accept I.steps u fs es x && b) (rest_accepted h u x.0 x.1)

  -- it accepts where the declared schemas accept the members of their names, and each member is accepted by the patterns and the rest
  pub named_accepts : (v : Data) → (named_means o.answers o.costs m S v).accepts u ≡ (list_all (λ e. list_all (accepts I.steps u e.1) (at e.0 v)) fs
      && list_all others_accept_it (members v))
  named_accepts v =
      λ i. (ap (λ l. (every (λ e. every (m e.1.1) (at e.0 v)) l).accepts u) h.placed_zip ∙ declared_accept I m r t _ u v 0 h.nodes fs h.declared) i && along (members v) i
    where
      along : (xs : Rows) → (every (λ x. others_mean o.answers o.costs m S x.0 x.1) xs).accepts u ≡ list_all others_accept_it xs
      along [] = refl
      along (x ∷ xs) = λ i. others_accept x i && along xs i

  -- ---- what it finds

  -- in a member, by the patterns and the rest
  abbrev others_find_it : Path → Name × Data → List Fault
  others_find_it Q x = matching_report I.steps u fs es P Q x ++ rest_report I.steps u fs es P Q d x

  others_find : (v : Data) (Q : Path) (x : Name × Data) → others_found o.answers S u v Q r x ∼ others_find_it Q x
  others_find v Q x = like_through (all_find I m r t u x.1 (Q // x.0) _ _ (others_answer h x.0 u)) (∼_same (found_by_others h u x Q))

  -- it finds what the declared schemas find, what the patterns and the rest find in each member, and the members that are not expected
  pub named_finds : (named : Bool) (v : Data) (Q : Path) → named_report o.answers S u v Q named (P // codes "additionalProperties") r
      ∼ flat_map (λ e. flat_map (λ x. report I.steps u e.1 x (P // codes "properties" // e.0) (Q // e.0)) (at e.0 v)) fs
      ++ flat_map (others_find_it Q) (members v) ++ others_report o.world u fs es P Q named d v
  named_finds named v Q = like_through
      (∼_append (like_through (∼_same (ap (flat_map _) h.placed_zip))
      (declared_find I m r t _ u v Q 0 h.nodes fs h.declared))
      (∼_append (∼_flat_map_any _ (others_find_it Q) (others_find v Q) (members v)) (∼_same (faults_of_others h u named v Q))))
      (∼_same (sym (append_assoc (flat_map _ fs)
      (flat_map (others_find_it Q) (members v)) (others_report o.world u fs es P Q named d v))))

  -- ---- how many matchers are asked

  -- of a member, by the patterns and their schemas
  abbrev patterns_ask_it : Name × Data → ℕ
  patterns_ask_it x = matching_asks I.steps u fs es x + patterns_asked o.world fs es x.0

  others_ask : (x : Name × Data) → (others_mean o.answers o.costs m S x.0 x.1).asks of_asked u ≤ patterns_ask_it x + rest_asks I.steps u fs es d x
  others_ask x =
      let whole = patterns_ask o.answers o.costs S x.0 u (at_name S x.0) m x.1 (is_some (at_name S x.0)) 0 S.patterns in
      let nodes = all_ask I m r t u x.1 _ _ (others_answer h x.0 u) in
      let parts = asked_by_others h u x in
      let rest = rest_within h u x in
      let matchers = matchers_for h u x.0 in
      omega (arith, whole, nodes, parts, rest, matchers)

  -- it asks at most what the declared schemas ask, and what the patterns and the rest ask of each member
  pub named_asks : (v : Data) → (named_means o.answers o.costs m S v).asks of_asked u ≤ sum_by (λ e. sum_by (asks I.steps u e.1) (at e.0 v)) fs + sum_by
      patterns_ask_it (members v) + sum_by (rest_asks I.steps u fs es d) (members v)
  named_asks v =
      let same = ap (λ l. (every (λ e. every (m e.1.1) (at e.0 v)) l).asks of_asked u) h.placed_zip in
      let declared = declared_ask I m r t (P // codes "properties") u v 0 h.nodes fs h.declared in
      let others = along (members v) in
      let parts = sum_of_both patterns_ask_it (rest_asks I.steps u fs es d) (members v) in
      omega (arith, same, declared, others, parts)
    where
      along : (xs : Rows) → (every (λ x. others_mean o.answers o.costs m S x.0 x.1) xs).asks of_asked u ≤ sum_by (λ x. patterns_ask_it x + rest_asks I.steps u fs es d x) xs
      along [] = omega arith
      along (x ∷ xs) = more_within _ _ _ _ _ (others_ask x) (along xs) (sum_by-cons (λ x. patterns_ask_it x + rest_asks I.steps u fs es d x) x xs)
