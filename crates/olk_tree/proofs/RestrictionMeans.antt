-- The validator of `additionalProperties` answers what the members mean together for which it stands.
use Rattle.std.specs.Prelude.{◌≡◌, ◌≤◌, ◌+◌, Bool, true, false, cond, ◌&&◌, ◌||◌, List, [], ◌∷◌, ◌++◌, map, codes, sum_by, Option, Some, None, is_some}
use Rattle.std.specs.List.{list_all, flat_map}
use Rattle.std.proofs.Common.{refl, sym, ap, ◌∙◌, arith}
use Rattle.serde_json.specs.Data.{Data, Members}
use Rattle.olk_spec.specs.Names.{Name, Text, Path, ◌//◌, lookup_name, is_empty}
use Rattle.olk_spec.specs.World.{Says}
use Rattle.olk_spec.specs.Vocabulary.{additional_properties, keyword_named}
use Rattle.olk_spec.specs.Faults.{Fault, ◌∼◌, like_through}
use Rattle.olk_spec.specs.Schemas.{listed, read_members}
use Rattle.olk_spec.specs.Malformed.{has_repeat}
use Rattle.olk_spec.specs.Accepts.{missing}
use Rattle.olk_spec.specs.Reports.{required_faults}
use Rattle.olk_spec.specs.Tree.{Tree}
use Rattle.olk_spec.specs.Trees.{fuses_one}
use Rattle.olk_spec.proofs.Order.{∼_append, ∼_behind, ∼_same, ∼_sym}
use Rattle.olk_base.specs.Kit.{Kit}
use Rattle.olk_tree.specs.Steps.{StepsOf}
use Rattle.olk_meaning.specs.AdditionalProperties.{required_beside, has_beside, required_child}
use Rattle.olk_meaning.specs.Conditions.{is_restricted}
use Rattle.olk_meaning.specs.Fused.{fused_one}
use Rattle.olk_meaning.specs.Members.{member_accepts, member_asks, member_report, member_child}
use Rattle.olk_meaning.specs.Plans.{plan_of, head, claims}
use Rattle.olk_meaning.proofs.Restriction.{claims_accept, claims_accept_each, claims_find, claims_find_each, claims_ask, claims_ask_each, additional_shows}
use Rattle.olk_tree.specs.Questions.{Question, of_asked}
use Rattle.olk_tree.specs.Additional.{Sides, repeats, means_in_turn, named_means, report_in_turn, named_report, additional_tree, sides_of, has_neighbours, required_text, required_place, lacks}
use Rattle.olk_tree.specs.Validators.{answers_of, validator_means, validator_report, validator_tree}
use Rattle.olk_tree.specs.Holdings.{held}
use Rattle.olk_tree.specs.Shown.{missing_trees}
use Rattle.olk_tree.specs.Sides.{RestrictionStands}
use Rattle.olk_tree.specs.declared.additional_properties.Restriction.{Restriction}
use Rattle.olk_tree.specs.declared.node.KeywordOver.TheVariants as keyword
use Rattle.olk_tree.proofs.Restricted.{restricted_accepts, restricted_finds, restricted_shows}
use Rattle.olk_tree.proofs.RestrictedAsks.{restricted_asks}
use Rattle.olk_tree.proofs.RestrictedNames.{named_accepts, named_finds, named_asks}

-- the place of patterns counts where they alone stand beside it
patterns_placed : {R N : Type 0} (answers : R → Name → Says) (S : Sides R N) (u : Bool) (v : Data) (Q : Path) (declares has_patterns : Bool)
    (A : Path) {L M : Path} (t : N → Data → Path → Tree) (more : List Tree) → (has_patterns ≡ true → declares ≡ false → L ≡ M)
    → additional_tree answers S u v Q declares has_patterns A L t more ≡ additional_tree answers S u v Q declares has_patterns A M t more
patterns_placed answers S u v Q false true A t more e = ap (λ L. additional_tree answers S u v Q false true A L t more) (e refl refl)
patterns_placed answers S u v Q true true A t more e = refl
patterns_placed answers S u v Q declares false A t more e = refl

module _ {K R N : Type 0} {o : Kit K R} (I : StepsOf o) (m : N → Data → Question) (r : N → Bool → Data → Path → List Fault) (t : N → Bool → Data → Path → Tree)
    (k : Restriction R N) {ms : Members} {d : Data} {P : Path} (h : RestrictionStands I m r t (held k) ms d P) where
  -- ---- the name that is required

  required_found : (v : Data) (Q : Path) → lacks (held k).required v Q ≡ required_faults (required_beside ms) v (P // codes "required") Q
  required_found v Q = by (held k).required h.requires h.required_place
    where
      by : (q : Option (Text × Path)) → required_text q ≡ required_beside ms → (is_some q ≡ true → required_place q ≡ P // codes "required")
          → lacks q v Q ≡ required_faults (required_beside ms) v (P // codes "required") Q
      by None e p = ap (λ ns. required_faults ns v (P // codes "required") Q) e
      by (Some n) e p = λ i. required_faults (e i) v (p refl i) Q

  required_shown : (v : Data) (Q : Path) → missing_trees (required_text (held k).required) v (required_place (held k).required) Q ≡ required_child ms v P Q
  required_shown v Q = by (held k).required h.requires h.required_place
    where
      by : (q : Option (Text × Path)) → required_text q ≡ required_beside ms → (is_some q ≡ true → required_place q ≡ P // codes "required")
          → missing_trees (required_text q) v (required_place q) Q ≡ required_child ms v P Q
      by None e p = ap (λ ns. missing_trees ns v (P // codes "required") Q) e
      by (Some n) e p = λ i. missing_trees (e i) v (p refl i) Q

  -- ---- all

  -- what it finds but for that name
  abbrev reported : Bool → Data → Path → Bool → Bool → Path → List Fault
  reported u v Q b named A = cond b (named_report o.answers (sides_of (held k)) u v Q named A r) (report_in_turn o.answers (sides_of (held k)) u v Q named A r)

  module _ (distinct : has_repeat (map (λ x. x.0) (listed ms)) ≡ false) (there : lookup_name (codes "additionalProperties") (listed ms) ≡ Some d) (restricted : is_restricted ms ≡ true) where
    -- what the validator stands for
    abbrev pub claimed : List (Name × Data)
    claimed = claims (head (plan_of ms)) (listed ms) (codes "additionalProperties", d)

    -- it accepts where each of these accepts
    pub restriction_accepts : (u : Bool) (v : Data) → (validator_means o m (keyword.AdditionalProperties k) v).accepts u ≡ list_all
        (λ x. member_accepts I.steps ms x (keyword_named o.world x.0) u v) claimed
    unfolding answers_of
    restriction_accepts u v = by (repeats v) refl
      where
        by : (b : Bool) → repeats v ≡ b → ((cond b (named_means o.answers o.costs m (sides_of (held k)) v) (means_in_turn o.answers o.costs m (sides_of (held k)) v)).accepts u
            && is_empty (missing (required_text (held k).required) v)) ≡ list_all (λ x. member_accepts I.steps ms x (keyword_named o.world x.0) u v) claimed
        by true q = (λ i. named_accepts h.sides u v i && is_empty (missing (h.requires i) v)) ∙ sym (claims_accept I.steps ms d distinct there restricted u v)
        by false q = (λ i. restricted_accepts h.sides u v i && is_empty (missing (h.requires i) v)) ∙ sym (claims_accept_each I.steps ms d distinct there restricted u v h.declared_once q)

    -- it asks at most what these ask
    pub restriction_asks : (u : Bool) (v : Data) → (validator_means o m (keyword.AdditionalProperties k) v).asks of_asked u ≤ sum_by (λ x. member_asks I.steps ms x (keyword_named o.world x.0) u v) claimed
    unfolding answers_of
    restriction_asks u v = by (repeats v) refl
      where
        by : (b : Bool) → repeats v ≡ b → (cond b (named_means o.answers o.costs m (sides_of (held k)) v) (means_in_turn o.answers o.costs m (sides_of (held k)) v)).asks of_asked u + 0 ≤ sum_by
            (λ x. member_asks I.steps ms x (keyword_named o.world x.0) u v) claimed
        by true q =
            let within = named_asks h.sides u v in
            let all = claims_ask I.steps ms d distinct there restricted u v in
            omega (arith, within, all)
        by false q =
            let within = restricted_asks h.sides u v in
            let all = claims_ask_each I.steps ms d distinct there restricted u v h.declared_once q in
            omega (arith, within, all)

    -- it finds what these find
    pub restriction_finds : (u : Bool) (v : Data) (Q : Path) → validator_report o m r u (keyword.AdditionalProperties k) v Q ∼ flat_map
        (λ x. member_report I.steps ms x (keyword_named o.world x.0) u v P Q) claimed
    unfolding answers_of
    restriction_finds u v Q = like_through (∼_append (∼_same placed) (∼_same (required_found v Q))) (by (repeats v) refl)
      where
        placed : reported u v Q (repeats v) (has_neighbours (held k)) (held k).location ≡ reported u v Q (repeats v) (has_beside ms) (P // codes "additionalProperties")
        placed = λ i. reported u v Q (repeats v) (h.declares i || h.has_patterns i) (h.place i)

        by : (b : Bool) → repeats v ≡ b → reported u v Q b (has_beside ms) (P // codes "additionalProperties") ++ required_faults (required_beside ms) v
            (P // codes "required") Q ∼ flat_map (λ x. member_report I.steps ms x (keyword_named o.world x.0) u v P Q) claimed
        by true q = like_through (∼_behind (required_faults _ v _ Q) (named_finds h.sides u _ v Q)) (∼_sym (claims_find I.steps ms d distinct there restricted u v P Q))
        by false q =
            like_through (∼_behind (required_faults _ v _ Q) (restricted_finds h.sides u _ v Q))
            (∼_sym (claims_find_each I.steps ms d distinct there restricted u v P Q h.declared_once q))

    -- and it shows the child of `additionalProperties`
    pub restriction_shows : (u : Bool) (v : Data) (Q : Path) → fuses_one (read_members (I.steps.means u) ms) ≡ is_some (fused_one ms)
        → validator_tree o m t u (keyword.AdditionalProperties k) v Q ∷ [] ≡ member_child I.steps ms (codes "additionalProperties", d) additional_properties u v P Q
    unfolding answers_of
    restriction_shows u v Q fused = ap (λ x. x ∷ [])
        (patterns_placed o.answers (sides_of (held k)) u v Q (is_some (held k).properties) (is_some (held k).patterns) (held k).location (λ n. t n u)
        (missing_trees _ v _ Q) h.patterns_place
        ∙ restricted_shows ms h.sides u v Q _ _ (held k).location _ (missing_trees _ v _ Q) h.declares h.has_patterns h.place refl (required_shown v Q))
        ∙ sym (additional_shows I.steps ms u v P Q d restricted fused)
