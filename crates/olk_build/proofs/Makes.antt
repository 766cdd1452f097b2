-- What is made of a part, by its shape.
use Rattle.std.proofs.Common.{◌≡◌, ℕ, ◌+◌, ◌==◌, nat_lt, Bool, true, false, not, cond, List, [], ◌∷◌, count_by, codes, None, ◌≤◌, ◌&&◌, ◌++◌, map, sum_by, Option, ◌||◌, bytes_eq, Some, is_some, Vec}
use Rattle.std.proofs.Common.{String, string_bytes, refl, sym, ◌∙◌, ap, subst, arith, append-nil, Global, true≢false}
use Rattle.serde_json.specs.Data.{Data, Members, string}
use Rattle.olk_spec.specs.Names.{Name, Path, ◌//◌, put_if, lookup_name}
use Rattle.olk_spec.specs.Faults.{Fault, Context, OneOfNotValid, like_not_valid, like_multiple, ◌∼◌}
use Rattle.olk_spec.specs.Schemas.{numbered, is_object, is_truth, members, listed, texts}
use Rattle.olk_spec.specs.Malformed.{items_of_array, has_repeat}
use Rattle.olk_spec.specs.Tree.{Tree, result, plain}
use Rattle.olk_spec.proofs.Order.{∼_append, ∼_same, ∼_flat_map_any}
use Rattle.olk_tree.specs.Questions.{some, of_asked, every}
use Rattle.olk_tree.specs.Shown.{several_accept, one_of_tree}
use Rattle.olk_meaning.specs.Told.{accepting_count, one_of_faults, one_shown, one_told, each_name_told, no_name_told}
use Rattle.olk_build.specs.Forms.{IsFormOfOneOf, IsFormOfProperties, IsFormOfAllOf, IsFormOfAnyOf}
use Rattle.olk_build.specs.Standing.{StandEach, StandAt, is_taken, is_restriction_shape}
use Rattle.olk_build.specs.Making.{KeywordMeans, MakesMember, MakesClaims, MakesPart}
use Rattle.olk_build.proofs.Held.{Answered, fault_like, found_in, at_value, accepts_value, any_ask, any_context, branches_show, accepting_show, at_most_through, means_told, unrestricted_if_untaken}
use Rattle.olk_build.proofs.Held.{means_all_of, means_any_of, means_not, means_form, means_fused, means_fused_one, means_own, means_leaf, means_unread, means_required_alone}
use Rattle.olk_build.proofs.Formed.{stand_formed, one_of_holds, branches_placed, stand_in, last_stands}
use Rattle.olk_meaning.specs.Chosen.{single_one_of_form, one_of_form, property_names_form, no_names_form}
use Rattle.olk_meaning.proofs.Standing.{one_of_stands, names_stand, no_names_stand, any_names_stand}
use Rattle.olk_build.proofs.Together.{by_its_name, MeanClaim, claim_by_name}
use Rattle.std.specs.List.{list_all}
use Rattle.olk_tree.proofs.Answering.{more_within}
use Rattle.olk_meaning.specs.Plans.{Planned, plan_of, is_case, tells_members}
use Rattle.olk_meaning.proofs.Claims.{apart_by, never_taken, free_takes_nothing, IsNoCase}
use Rattle.serde_json.specs.declared.value.Value.{Value}
use Rattle.olk_spec.specs.Vocabulary.{Keyword, properties, pattern_properties, additional_properties, required, if_keyword, then_keyword, else_keyword, keyword_named}
use Rattle.olk_spec.proofs.Walks.{bytes_eq-sym, neither}
use Rattle.olk_meaning.specs.Conditions.{is_condition, is_restriction, is_restricted}
use Rattle.olk_meaning.specs.Fused.{fused_pair}
use Rattle.olk_build.specs.Reading.{reads_of, IsShape}
use Rattle.olk_meaning.proofs.{Rows.Rows, Children.one_of_told, Listed.names_of}
use Rattle.std.proofs.{lemmas.List.Sums.sum_by-cons, Math.Bool.or-true}
use Rattle.olk_spec.specs.{Reports.fault_if, World.World}
use Rattle.olk_base.specs.{Kit.Kit, declared.pattern.CompiledPattern.CompiledPattern}
use Rattle.olk_tree.specs.{OneOf.one_of_report, Validators.answers_of, declared.node.KeywordOver.KeywordOver, Answers.Answers}
use Rattle.olk_build.specs.{declared.shape.Shape.Shape, declared.shape.ReadPlaces.TheVariants.Nothing, Made.IsMade, declared.part.TakenNeighbours.TakenNeighbours}
use Rattle.olk_tree.specs.declared.node.KeywordOver.TheVariants as keyword
use Rattle.olk_meaning.proofs.PropertyNames as fact
use Rattle.olk_build.specs.declared.shape.Shape.TheVariants as shape
use Rattle.olk_meaning.specs.Steps.{accepts, asks, validators}
use Rattle.olk_tree.specs.Steps.{StandsBy, StepsOf}

-- ---- what holds `oneOf`

-- one branch is counted where it accepts
one_counted : (b : Bool) → (0 + cond b 1 0 == 1) ≡ b
one_counted true = refl
one_counted false = refl

one_reported : (b : Bool) (c : Context) (v : Data) (L Q : Path) → fault_if (not b) (OneOfNotValid c) v L Q ≡ one_of_report (0 + cond b 1 0) c v L Q
one_reported true c v L Q = refl
one_reported false c v L Q = refl

module _ {K R N : Type 0} {o : Kit K R} (I : StepsOf o) (answers : N → Answers) where
  module _ (u : Bool) (v : Data) where
    -- as many nodes accept as schemas
    counted : (ns : List N) (es : Rows) (L : Path) → StandEach I answers ns es L → count_by (accepts_value I answers u v) ns ≡ accepting_count I.steps u v es
    counted [] [] L h = refl
    counted (n ∷ ns) (e ∷ es) L h = sum_by-cons (λ x. cond (accepts_value I answers u v x) 1 0) n ns
        ∙ (λ i. cond (h.0.verdict u v i) 1 0 + counted ns es L h.1 i)
        ∙ sym (sum_by-cons (λ (x : Name × Data). cond (accepts I.steps u x.1 v) 1 0) e es)
    counted _ _ L h = absurd h

    one_show : (Q : Path) (ns : List N) (es : Rows) (L : Path) → StandEach I answers ns es L → one_of_tree (λ n. (answers n).tree u) v Q
        (accepts_value I answers u v) L ns ≡ one_shown I.steps u v (accepting_count I.steps u v es) L Q es
    one_show Q ns es L h = λ i. cond (counted ns es L h i == 0) (result L Q None true [] (branches_show I answers u v L Q ns es h i))
        (result L Q None false (put_if (nat_lt 1 (counted ns es L h i)) several_accept []) (accepting_show I answers u v L Q ns es h i))

  module _ (L : Path) (ns : List N) (u : Bool) (v : Data) where
    abbrev accepting : List N → ℕ
    accepting xs = count_by (accepts_value I answers u v) xs

    abbrev one_faults : List N → Path → Path → List Fault
    one_faults xs M Q = one_of_report (accepting xs) (found_in I answers u v Q xs) v M Q

    abbrev one_tree : List N → Path → Path → Tree
    one_tree xs M Q = one_of_tree (λ n. (answers n).tree u) v Q (accepts_value I answers u v) M xs

    one_form : (k : KeywordOver K R N) → IsFormOfOneOf L ns k
        → Answered I answers k u v (accepting ns == 1) ((some (at_value I answers u v) ns).asks of_asked u) (one_faults ns L) (one_tree ns L)
    unfolding answers_of
    one_form (keyword.OneOf k) f = record {
      verdict = ap (λ xs. accepting xs == 1) f.0;
      asks_within = let e = ap (λ xs. (some (at_value I answers u v) xs).asks of_asked u) f.0 in omega (arith, e);
      faults = λ Q. λ i. one_faults (f.0 i) (f.2 i) Q;
      evaluation = λ Q. λ i. one_tree (f.0 i) (f.2 i) Q;
    }
    one_form (keyword.SingleOneOf k) f = record {
      verdict = sym (one_counted (accepts_value I answers u v k.node)) ∙ ap (λ xs. accepting xs == 1) (sym f.0);
      asks_within = let e = ap (λ xs. (some (at_value I answers u v) xs).asks of_asked u) f.0 in omega (arith, e);
      faults = λ Q. one_reported (accepts_value I answers u v k.node) (found_in I answers u v Q (k.node ∷ [])) v k.location Q ∙ (λ i. one_faults (sym f.0 i) (f.1 i) Q);
      evaluation = λ Q. λ i. one_tree (sym f.0 i) (f.1 i) Q;
    }
    one_form k f = absurd f

  pub means_one_of : (k : KeywordOver K R N) (ns : List N) (L : Path) (d : Data) → IsFormOfOneOf L ns k → StandEach I answers ns (numbered (items_of_array d)) L
      → (ms : Members) (P : Path) → L ≡ P // codes "oneOf" → KeywordMeans I answers ms (k ∷ []) (codes "oneOf", d) P
  means_one_of k ns L d form stand ms P p = means_told I answers ms k (codes "oneOf", d) P L (one_told I.steps es) p (one_of_told I.steps ms d) (record {
    verdict = λ u v. (one_form L ns u v k form).verdict ∙ ap (λ n. n == 1) (counted u v ns es L stand);
    asks_within = λ u v. at_most_through I answers _ _ _ (one_form L ns u v k form).asks_within (any_ask I answers u v L ns es stand);
    faults = λ u v Q.
        let context = any_context I answers u v L Q ns es stand in
        let count = accepting_count I.steps u v es in
        subst (λ fs. fs ∼ one_of_faults I.steps u v count L Q es)
        (sym ((one_form L ns u v k form).faults Q ∙ ap (λ n. one_of_report n (found_in I answers u v Q ns) v L Q) (counted u v ns es L stand)))
        (∼_append (fault_like (count == 0) v L Q (like_not_valid context)) (fault_like (nat_lt 1 count) v L Q (like_multiple context)));
    evaluation = λ u v Q. (one_form L ns u v k form).evaluation Q ∙ one_show u v Q ns es L stand;
    formed = (one_of_holds I answers k L ns form).0 (stand_formed I answers _ _ _ stand);
  })
      (λ own. branches_placed I answers k L (P // codes "oneOf") single_one_of_form one_of_form ns d p (one_of_holds I answers k L ns form).1 stand ∙ sym (one_of_stands I.steps ms P d))
    where
      es : Rows
      es = numbered (items_of_array d)

-- ---- what holds `propertyNames`

module _ {K R N : Type 0} {o : Kit K R} (I : StepsOf o) (answers : N → Answers) where
  -- ---- a schema for each name

  module _ (n : N) (L : Path) where
    abbrev each_name : KeywordOver K R N
    each_name = keyword.PropertyNames (record { node = n; location = L })

    module _ (d : Data) (stands : StandsBy I answers n d L) (u : Bool) where
      names_accept : (es : Rows) → (every (λ x. (answers n).means (string x.0)) es).accepts u ≡ list_all (λ x. accepts I.steps u d (string x.0)) es
      names_accept [] = refl
      names_accept (e ∷ es) = λ i. stands.verdict u (string e.0) i && names_accept es i

      names_ask : (es : Rows) → (every (λ x. (answers n).means (string x.0)) es).asks of_asked u ≤ sum_by (λ x. asks I.steps u d (string x.0)) es
      names_ask [] = omega arith
      names_ask (e ∷ es) = more_within _ _ _ _ _ (stands.asks_within u (string e.0)) (names_ask es) (sum_by-cons _ e es)

    means_property_names : (d : Data) → is_object d ≡ true → StandsBy I answers n d L → (ms : Members) (P : Path) → L ≡ P // codes "propertyNames"
        → KeywordMeans I answers ms (each_name ∷ []) (codes "propertyNames", d) P
    unfolding answers_of
    means_property_names d is stands ms P p = means_told I answers ms each_name (codes "propertyNames", d) P L (each_name_told I.steps d) p (fact.property_names_told I.steps ms d is) (record {
      verdict = λ u v. names_accept d stands u (members v);
      asks_within = λ u v. names_ask d stands u (members v);
      faults = λ u v Q. ∼_flat_map_any _ _ (λ x. fact.∼_wrapped v Q (stands.faults u (string x.0) Q)) (members v);
      evaluation = λ u v Q. (λ i. plain L Q (map (λ x. stands.evaluation u (string x.0) Q i) (members v)));
      formed = stands.formed;
    })
        (λ own. append-nil ((L, property_names_form) ∷ stand_in I answers n) ∙ (λ i. (p i, property_names_form) ∷ (stands.forms ∙ ap (validators I.steps d) p) i) ∙ sym (names_stand I.steps ms P d is))

    pub makes_property_names : (before ns : List N) → ns ≡ before ++ n ∷ [] → MakesMember I answers shape.PropertyNames L ns (each_name ∷ [])
    makes_property_names before ns e ms m P p s h = by_its_name I answers s.0 p (means_property_names m.1 s.1 (last_stands I answers before e h) ms P)

  -- ---- no name at all

  module _ (L : Path) where
    abbrev no_names : KeywordOver K R N
    no_names = keyword.PropertyNamesFalse (record { location = L })

    means_no_names : (d : Data) → is_truth false d ≡ true → (ms : Members) (P : Path) → L ≡ P // codes "propertyNames" → KeywordMeans I answers ms (no_names ∷ []) (codes "propertyNames", d) P
    unfolding answers_of
    means_no_names d is ms P p = means_told I answers ms no_names (codes "propertyNames", d) P L no_name_told p (fact.no_names_told I.steps ms d is)
        (record { verdict = λ u v. refl; asks_within = λ u v. omega arith; faults = λ u v Q. ∼_same refl; evaluation = λ u v Q. refl; formed = refl })
        (λ own. (λ i. (p i, no_names_form) ∷ []) ∙ sym (no_names_stand I.steps ms P d (fact.false_is_no_object d is) is))

    pub makes_no_names : MakesMember I answers shape.NoNames L [] (no_names ∷ [])
    makes_no_names ms m P p s h = by_its_name I answers s.0 p (means_no_names m.1 s.1 ms P)

  -- ---- any name

  means_any_names : (d : Data) → is_object d ≡ false → is_truth false d ≡ false → (ms : Members) (P : Path) → KeywordMeans I answers ms [] (codes "propertyNames", d) P
  means_any_names d no_schema not_false ms P = record {
    holds = record {
      verdict = λ u v. sym (fact.any_names_accepts I.steps ms d u v no_schema not_false);
      asks_within = λ free u v. subst (λ n. 0 ≤ n) (sym (fact.no_schema_asks I.steps ms d u v)) (omega arith);
      faults = λ u v Q. ∼_same (sym (fact.any_names_report I.steps ms d u v no_schema not_false P Q));
    };
    shows = λ u h v Q. sym (fact.any_names_child I.steps ms d u v no_schema not_false P Q);
    formed = refl;
    forms = λ own. sym (any_names_stand I.steps ms P d no_schema not_false);
  }

  pub makes_any_names : (L : Path) (ns : List N) → MakesMember I answers shape.AnyNames L ns []
  makes_any_names L ns ms m P p s h = by_its_name I answers s.0 p (λ place. means_any_names m.1 s.1 s.2 ms P)

-- ---- what is made of a part, by its shape

module _ {K R N : Type 0} {o : Kit K R} (I : StepsOf o) (answers : N → Answers) {x y : Shape K R} (e : x ≡ y) where
  pub is_made : (L P : Path) (ns : List N) (t : TakenNeighbours R N) (p : Planned) (r : Option (KeywordOver K R N)) → IsMade I answers y L ns t P p r → IsMade I answers x L ns t P p r
  is_made L P ns t p r = subst (λ z. IsMade I answers z L ns t P p r) (sym e)

-- ---- what is made of a part, and of all parts

-- keywords that another may stand for, and those that may stand for another
abbrev pub neighbours : Keyword → Bool
neighbours properties = true
neighbours pattern_properties = true
neighbours additional_properties = true
neighbours required = true
neighbours if_keyword = true
neighbours then_keyword = true
neighbours else_keyword = true
neighbours w = false

pub apart : (W : World) (n k : Name) → neighbours (keyword_named W n) ≡ true → neighbours (keyword_named W k) ≡ false → bytes_eq n k ≡ false
apart W n k h e = apart_by (λ x. neighbours (keyword_named W x)) n k h e

no_case : (W : World) (c : Bool) (k : Name) → neighbours (keyword_named W k) ≡ false → IsNoCase c k
no_case W c k e read_here = (
  away (codes "if") refl,
  λ i. away (codes "then") refl i || (away (codes "else") refl i || false),
)
  where
    away : (n : Name) → neighbours (keyword_named W n) ≡ true → bytes_eq k n ≡ false
    away n h = bytes_eq-sym k n ∙ apart W n k h e

module _ {K R N : Type 0} {o : Kit K R} (I : StepsOf o) (answers : N → Answers) where
  pub makes_all_of : (k : KeywordOver K R N) (L : Path) (ns : List N) → IsFormOfAllOf L ns k → MakesMember I answers shape.AllOf L ns (k ∷ [])
  makes_all_of k L ns form ms m P p s h = by_its_name I answers s.0 p (means_all_of I answers k ns L m.1 form h ms P)

  pub makes_any_of : (k : KeywordOver K R N) (L : Path) (ns : List N) → IsFormOfAnyOf L ns k → MakesMember I answers shape.AnyOf L ns (k ∷ [])
  makes_any_of k L ns form ms m P p s h = by_its_name I answers s.0 p (means_any_of I answers k ns L m.1 form h ms P)

  pub makes_one_of : (k : KeywordOver K R N) (L : Path) (ns : List N) → IsFormOfOneOf L ns k → MakesMember I answers shape.OneOf L ns (k ∷ [])
  makes_one_of k L ns form ms m P p s h = by_its_name I answers s.0 p (means_one_of I answers k ns L m.1 form h ms P)

  pub makes_not : (original : Value) (L : Path) (n : N) (rest ns : List N) → ns ≡ rest ++ n ∷ [] → MakesMember I answers (shape.Not original) L ns
      (keyword.Not (record { original = original; node = n; location = L }) ∷ [])
  makes_not original L n rest ns e ms m P p s h = by_its_name I answers s.0 p (means_not I answers original n L m.1 s.1 (last_stands I answers rest e h) ms P)

  pub makes_leaf : (l : K) (L : Path) (ns : List N) → MakesMember I answers (shape.Leaf l) L ns (keyword.Leaf L l ∷ [])
  makes_leaf l L ns ms m P p s h = means_leaf I answers l m.0 L m.1 s.0 s.1 s.2 ms P p

  pub makes_unread : (L : Path) (ns : List N) → MakesMember I answers shape.Unread L ns []
  makes_unread L ns ms m P p s h = means_unread I answers m.0 m.1 s ms P

  pub makes_properties : (k : KeywordOver K R N) (names : List Name) (ns : List N) (L P : Path) (p : Planned) → IsFormOfProperties P L names ns p.fused_pair k
      → MakesClaims I answers (shape.Properties names) L ns P p (k ∷ [])
  makes_properties k names ns L P p form ms m l s h distinct there chosen untaken = claim_by_name I answers s.0 chosen l there (λ place found.
      means_form I answers k names ns L P p.fused_pair m.1 s.2 h form ms
      place distinct found (ap (λ q. q.fused_pair) chosen)
      (ap (λ q. q.restricted) (sym chosen) ∙ unrestricted_if_untaken I answers p (codes "properties") refl (ap (is_taken p) (sym s.0) ∙ untaken)))

  module _ (v : Vec (String Global) Global) (L P : Path) (ns : List N) (p : Planned) where
    abbrev MakesRequired : List (KeywordOver K R N) → Type 0
    MakesRequired ks = MakesClaims I answers (shape.Required v) L ns P p ks

    required_makes : (ks : List (KeywordOver K R N)) → ((ms : Members) (d : Data) → p ≡ plan_of ms → L ≡ P // codes "required" → map string_bytes v.items ≡ texts d
        → has_repeat (names_of (listed ms)) ≡ false → lookup_name (codes "required") (listed ms) ≡ Some d → MeanClaim I answers ms (plan_of ms) ks (codes "required", d) P) → MakesRequired ks
    required_makes ks make ms m l s h distinct there chosen untaken = claim_by_name I answers s.0 chosen l there (λ place. make ms m.1 chosen place s.2 distinct)

    pub makes_required_elsewhere : is_some p.fused_pair ≡ true → MakesRequired []
    makes_required_elsewhere e = required_makes [] (λ ms d chosen l same distinct there. by ms d (fused_pair ms) refl (ap (λ q. is_some q.fused_pair) (sym chosen) ∙ e))
      where
        by : (ms : Members) (d : Data) (t : Option (Name × Name)) → fused_pair ms ≡ t → is_some t ≡ true → MeanClaim I answers ms (plan_of ms) [] (codes "required", d) P
        by ms d None q f = absurd (true≢false (sym f))
        by ms d (Some t) q f = means_fused I answers t d ms P (sym q)

    pub makes_required_inside : is_some p.fused_one ≡ true → MakesRequired []
    makes_required_inside e = required_makes [] (λ ms d chosen l same distinct there. means_fused_one I answers d ms P (ap (λ q. is_some q.fused_one) (sym chosen) ∙ e))

    pub makes_required_alone : is_some p.fused_pair ≡ false → is_some p.fused_one ≡ false → MakesRequired (keyword.Required (record { required = v; location = L }) ∷ [])
    makes_required_alone e f = required_makes (keyword.Required (record { required = v; location = L }) ∷ [])
        (λ ms d chosen l same distinct there. means_required_alone I answers v L d same ms P l distinct there (ap (λ q. is_some q.fused_pair) (sym chosen) ∙ e)
        (ap (λ q. is_some q.fused_one) (sym chosen) ∙ f))

  -- a keyword that has no neighbours claims its own member
  abbrev pub IsAlone : Shape K R → Type 0
  IsAlone x = (k : Name) (d : Data) → IsShape o k d x → neighbours (keyword_named o.world k) ≡ false

  -- `additionalProperties` does not take the part that stays
  told_by_none : (ms : Members) (p : Planned) (k : Name) → p ≡ plan_of ms → is_taken p k ≡ false → (is_restricted ms && tells_members k) ≡ false
  told_by_none ms p k chosen untaken = (neither (is_restricted ms && tells_members k) (is_condition ms && is_case k) (ap (λ q. is_taken q k) (sym chosen) ∙ untaken)).0

  pub claims_own : {x y : Shape K R} {L P : Path} {ks : List (KeywordOver K R N)} {p : Planned} (ns : List N) → x ≡ y → IsAlone y
      → MakesMember I answers y L ns ks → MakesClaims I answers x L ns P p ks
  claims_own {x} {y} {L} {P} {ks} {p} ns e alone make = subst (λ z. MakesClaims I answers z L ns P p ks) (sym e) (λ ms m l s h distinct there chosen untaken.
      subst (λ q. MeanClaim I answers ms q ks m P) (sym chosen)
      (let from = λ (n : Name) (h : neighbours (keyword_named o.world n) ≡ true). apart o.world n m.0 h (alone m.0 m.1 s) in
      means_own I answers ks ms m P distinct there (from (codes "properties") refl) (from (codes "required") refl) (no_case o.world (is_condition ms) m.0 (alone m.0 m.1 s))
      (never_taken (plan_of ms) m.0 (from (codes "additionalProperties") refl) (from (codes "properties") refl) (from (codes "patternProperties") refl) (from (codes "required") refl))
      (told_by_none ms p m.0 chosen untaken) (make ms m P l s h)))

  -- `patternProperties` does where nothing is restricted
  pub patterns_claim_own : {x : Shape K R} {v : Vec (CompiledPattern R) Global} {L P : Path} {ks : List (KeywordOver K R N)} {p : Planned} (ns : List N)
      → x ≡ shape.PatternProperties v → MakesMember I answers (shape.PatternProperties v) L ns ks → MakesClaims I answers x L ns P p ks
  patterns_claim_own {x} {v} {L} {P} {ks} {p} ns e make = subst (λ z. MakesClaims I answers z L ns P p ks) (sym e) (λ ms m l s h distinct there chosen untaken.
      subst (λ q. MeanClaim I answers ms q ks m P) (sym chosen)
      (means_own I answers ks ms m P distinct there (ap (bytes_eq (codes "properties")) s.0) (ap (bytes_eq (codes "required")) s.0)
      (λ read_here. (ap (λ n. bytes_eq n (codes "if")) s.0, ap is_case s.0))
      (free_takes_nothing ms m.0 (ap (λ q. q.restricted) (sym chosen) ∙ unrestricted_if_untaken I answers p m.0 (ap tells_members s.0) untaken))
      (told_by_none ms p m.0 chosen untaken) (make ms m P l s h)))

  -- ---- what is made of a part

  -- a keyword that reads no places has no nodes
  pub without_nodes : (x : Shape K R) (L : Path) (ns : List N) (ks : List (KeywordOver K R N)) → reads_of x ≡ Nothing → MakesMember I answers x L [] ks → MakesMember I answers x L ns ks
  without_nodes x L ns ks none make ms m P place s stand = make ms m P place s (subst (λ r. StandAt I answers r [] m.1 L) (sym none) refl)

  -- all but `if` and `additionalProperties` hold their own nodes alone
  pub part_of_claims : (x : Shape K R) {L P : Path} {ks : List (KeywordOver K R N)} {p : Planned} (ns : List N) (t : TakenNeighbours R N)
      → MakesClaims I answers x L ns P p ks → MakesPart I answers x L ns t P p ks
  part_of_claims x ns t make ms m place s fits stand cases beside distinct there chosen untaken = make ms m place s stand distinct there chosen untaken

  -- of an equal shape
  pub part_of_shape : {x y : Shape K R} {L P : Path} {ks : List (KeywordOver K R N)} {p : Planned} (ns : List N) (t : TakenNeighbours R N) → x ≡ y
      → MakesPart I answers y L ns t P p ks → MakesPart I answers x L ns t P p ks
  part_of_shape {x} {y} {L} {P} {ks} {p} ns t e = subst (λ z. MakesPart I answers z L ns t P p ks) (sym e)

  pub part_of_alone : {x y : Shape K R} {L P : Path} {ks : List (KeywordOver K R N)} {p : Planned} (ns : List N) (t : TakenNeighbours R N) → x ≡ y → IsAlone y
      → MakesMember I answers y L ns ks → MakesPart I answers x L ns t P p ks
  part_of_alone {x} ns t e alone make = part_of_claims x ns t (claims_own ns e alone make)

  -- of a shape that has one name
  pub part_of_own : {x y : Shape K R} {n : Name} {L P : Path} {ks : List (KeywordOver K R N)} {p : Planned} (ns : List N) (t : TakenNeighbours R N) → x ≡ y
      → ((k : Name) (d : Data) → IsShape o k d y → k ≡ n) → neighbours (keyword_named o.world n) ≡ false → MakesMember I answers y L ns ks → MakesPart I answers x L ns t P p ks
  part_of_own ns t e named apart = part_of_alone ns t e (λ k d s. ap (λ n. neighbours (keyword_named o.world n)) (named k d s) ∙ apart)

  pub restriction_named : (x : Shape K R) (k : Name) (d : Data) → IsShape o k d x → is_restriction_shape x ≡ true → (k ≡ codes "additionalProperties") × (is_restriction (Some d) ≡ true)
  restriction_named shape.AdditionalProperties k d s e = (s.0, ap (λ b. is_truth false d || b) s.1 ∙ or-true (is_truth false d))
  restriction_named shape.NoOthers k d s e = (s.0, ap (λ b. b || is_object d) s.1)
  restriction_named x k d s e = absurd (true≢false (sym e))
