-- What a validator of `additionalProperties` comes to, over what its walk comes to.
use Rattle.std.proofs.Common.{◌≡◌, Bool, true, false, not, ◌&&◌, cond, List, [], ◌∷◌, ◌++◌, Option, Some, None, String, Global, refl, sym, ap, subst, ◌∙◌, Result, Ok, Err}
use Rattle.std.specs.Prelude.{⊤}
use Rattle.std.specs.Result.{IsErr}
use Rattle.std.specs.List.{flat_map}
use Rattle.std.proofs.Math.Bool.{and-true}
use Rattle.std.proofs.lemmas.List.{append-nil}
use Rattle.serde_json.specs.Data.{Data}
use Rattle.serde_json.specs.Find.{as_object}
use Rattle.serde_json.specs.View.{members_view}
use Rattle.serde_json.specs.declared.value.Value.{Value}
use Rattle.olk_spec.specs.Names.{Name, Text, Path, ◌//◌, filter_once, is_empty}
use Rattle.olk_spec.specs.World.{Says, unmatched}
use Rattle.olk_spec.specs.Faults.{Fault, fault, Kind, FalseSchema, itself}
use Rattle.olk_spec.specs.Schemas.{is_object, has, listed, members}
use Rattle.olk_spec.specs.Accepts.{missing}
use Rattle.olk_spec.specs.Reports.{unexpected_faults}
use Rattle.olk_spec.proofs.Passing.{filter_once-none}
use Rattle.olk_base.specs.declared.no_regexes.NoRegex.{NoRegex}
use Rattle.olk_base.specs.Lawful.{Asking}
use Rattle.olk_tree.specs.Questions.{Question, always}
use Rattle.olk_tree.specs.Additional.{Held, Sides, sides_of, has_neighbours, required_text, required_place, lacks, known_by, repeats, additional_means, additional_report, additional_first, means_in_turn, named_means, member_report, member_first}
use Rattle.olk_tree.specs.Firsts.{or_else, first_of}
use Rattle.olk_tree.specs.Holdings.{schema_holds, false_holds}
use Rattle.olk_tree.specs.declared.additional_properties.AdditionalProperties.{AdditionalProperties}
use Rattle.olk_tree.specs.declared.additional_properties.AdditionalPropertiesFalse.{AdditionalPropertiesFalse}
use Rattle.olk_tree.proofs.Faults.{none_of}
use Rattle.olk_tree.proofs.Members_met.{no_members, object_is}
use Rattle.olk_check.proofs.Asked.{only_same}
use Rattle.olk_check.proofs.Beside.{no_member}
use Rattle.olk_check.proofs.Unpatterned.{alone_means}
use Rattle.olk_errors.specs.Found.{Outcome}
use Rattle.olk_errors.specs.Outcomes.{of_each, of_names, of_values, of_no_members, of_asked_members}
use Rattle.olk_errors.specs.Sinks.{Ends, Walks}
use Rattle.olk_errors.specs.declared.sink.ErrorSink.{ErrorSink}
use Rattle.olk_errors.specs.declared.sink.Stop.{Stop}
use Rattle.olk_errors.proofs.AdditionalMembers.{other_unasked}
use Rattle.olk_errors.proofs.Loops.{or_else_nothing}
use Rattle.olk_errors.proofs.Own.{IsOwn, is_own, like_at}
use Rattle.olk_errors.proofs.Missing.{one_first, other_lacks_nothing}
use Rattle.olk_errors.proofs.Sinks.{after, unasked, goes_same, walks_same, walks_left, walks_before, walks_after, walks_alone}

nothing_after : (o : Outcome) → o ≡ after o unasked
nothing_after o = λ i. record { accepts = sym (and-true o.accepts) i; first = sym (or_else_nothing o.first) i; all = sym (append-nil o.all) i }

wanted : (v : Data) (Q : Path) (name : Option (Text × Path)) → of_names (required_text name) v (required_place name) Q
    ≡ record { accepts = is_empty (missing (required_text name) v); first = lacks name v Q; all = lacks name v Q }
wanted v Q None = refl
wanted v Q (Some x) = λ i. record {
  accepts = is_empty (missing (required_text (Some x)) v);
  first = one_first v x.1 Q x.0 (is_object v && not (has x.0 v)) i;
  all = lacks (Some x) v Q;
}

module _ {R N : Type 0} (answers : R → Name → Says) (costs : R → Bool) (m : N → Data → Question) (s r : N → Bool → Data → Path → List Fault) (u : Bool) (k : Held R N) (v : Data) (Q : Path) where
  -- the members, and then the name that is wanted
  abbrev pub of_held : Outcome
  of_held = record {
    accepts = (additional_means answers costs m (sides_of k) v).accepts u && is_empty (missing (required_text k.required) v);
    first = or_else (additional_first answers (sides_of k) u v Q (has_neighbours k) k.location s) (lacks k.required v Q);
    all = additional_report answers (sides_of k) u v Q (has_neighbours k) k.location r ++ lacks k.required v Q;
  }

  abbrev pub by_wanted : Outcome
  by_wanted = of_names (required_text k.required) v (required_place k.required) Q

  abbrev pub by_sides : Outcome
  by_sides = of_asked_members answers costs m s r u (sides_of k) v k.location Q

  pub with_wanted : has_neighbours k ≡ true → after by_sides by_wanted ≡ of_held
  with_wanted beside = ap (after by_sides) (wanted v Q k.required) ∙ (λ i. record {
    accepts = (additional_means answers costs m (sides_of k) v).accepts u && is_empty (missing (required_text k.required) v);
    first = or_else (additional_first answers (sides_of k) u v Q (sym beside i) k.location s) (lacks k.required v Q);
    all = additional_report answers (sides_of k) u v Q (sym beside i) k.location r ++ lacks k.required v Q;
  })

  -- where no name is
  with_none : has_neighbours k ≡ true → k.required ≡ None → by_sides ≡ of_held
  with_none beside none = nothing_after by_sides
      ∙ ap (λ w. after by_sides (of_names (required_text w) v (required_place w) Q)) (sym none)
      ∙ with_wanted beside

  -- of what is no object
  pub held_unasked : has_neighbours k ≡ true → None ≡ as_object v → of_held ≡ unasked
  held_unasked beside none = sym (with_wanted beside) ∙ (λ i. after
      (other_unasked answers costs m s r (sides_of k) v k.location Q u none i) (other_lacks_nothing (required_text k.required) v (required_place k.required) Q none i))

module _ {R N : Type 0} (answers : R → Name → Says) (costs : R → Bool) (m : N → Data → Question) (s r : N → Bool → Data → Path → List Fault) (v : Data) (Q : Path) {T : Type 0} {t : Result T Stop}
    {old new : ErrorSink} {a b : Asking} where
  -- a walk over the sides of what is held, where no name is wanted
  pub walks_sides : (k : Held R N) {S : Sides R N} → S ≡ sides_of k → has_neighbours k ≡ true → k.required ≡ None → Walks t old new a b (λ u. of_asked_members answers costs m s r u S v k.location Q)
      → Walks t old new a b (λ u. of_held answers costs m s r u k v Q)
  walks_sides k is beside none = walks_same (λ u so. ap (λ S. of_asked_members answers costs m s r u S v k.location Q) is ∙ with_none answers costs m s r u k v Q beside none)

  -- a walk that was stopped before the name that is wanted
  pub stopped_before_wanted : (k : Held R N) {S : Sides R N} → S ≡ sides_of k → has_neighbours k ≡ true → {U : Type 0} {e : Stop} → IsErr t
      → Walks {T = U} (Err e) old new a b (λ u. of_asked_members answers costs m s r u S v k.location Q) → Walks t old new a b (λ u. of_held answers costs m s r u k v Q)
  stopped_before_wanted k is beside err h = walks_same (λ u so. with_wanted answers costs m s r u k v Q beside) (walks_left err (walks_before (λ u. by_wanted answers costs m s r u k v Q)
      (walks_same (λ u so. ap (λ S. of_asked_members answers costs m s r u S v k.location Q) is) h)))

  -- one to its end, and then the name
  pub then_wanted : (k : Held R N) {S : Sides R N} → S ≡ sides_of k → has_neighbours k ≡ true → {U : Type 0} {y : U} {mid : ErrorSink}
      → Walks (Ok y) old mid a b (λ u. of_asked_members answers costs m s r u S v k.location Q) → ((u : Bool) → Ends t mid new (by_wanted answers costs m s r u k v Q))
      → Walks t old new a b (λ u. of_held answers costs m s r u k v Q)
  then_wanted k is beside h wants = walks_same (λ u so. with_wanted answers costs m s r u k v Q beside)
      (walks_after (λ u so. goes_same (ap (λ S. of_asked_members answers costs m s r u S v k.location Q) is) (h.ends u so).so) h.only (walks_alone (only_same b) wants))

  -- of a validator that holds the same
  pub walks_as : {h k : Held R N} → h ≡ k → Walks t old new a b (λ u. of_held answers costs m s r u h v Q) → Walks t old new a b (λ u. of_held answers costs m s r u k v Q)
  walks_as = subst (λ k. Walks t old new a b (λ u. of_held answers costs m s r u k v Q))

-- ---- without neighbours no pattern is asked

-- by the engine that walks are given there
abbrev pub no_regex_answers : NoRegex → Name → Says
no_regex_answers e n = unmatched

abbrev pub no_regex_costs : NoRegex → Bool
no_regex_costs e = true

-- and by the validators' answers
abbrev pub no_answers : ⊤ → Name → Says
no_answers e n = unmatched

abbrev pub no_costs : ⊤ → Bool
no_costs e = false

module _ {N : Type 0} (m : N → Data → Question) (s r : N → Bool → Data → Path → List Fault) (u : Bool) (k : AdditionalProperties N) (v : Data) (Q : Path) where
  abbrev sides : Sides ⊤ N
  sides = sides_of (schema_holds k)

  value_accepts : (b : Bool) → (of_values m s r u k.node v Q).accepts ≡ (cond b (named_means no_answers no_costs m sides v) (means_in_turn no_answers no_costs m sides v)).accepts u
  value_accepts true = refl
  value_accepts false = ap (λ q. q.accepts u) (alone_means m no_answers no_costs (known_by None) k.node v)

  first_value : (x : Name × Data) → s k.node u x.1 (Q // x.0) ≡ member_first no_answers sides u v Q false k.location s x
  first_value x = sym (or_else_nothing (s k.node u x.1 (Q // x.0))) ∙ sym (or_else_nothing (or_else (s k.node u x.1 (Q // x.0)) []))

  pub values_held : of_values m s r u k.node v Q ≡ of_held no_answers no_costs m s r u (schema_holds k) v Q
  values_held = λ i. record {
    accepts = (value_accepts (repeats v) ∙ sym (and-true _)) i;
    first = ((λ j. first_of (λ x. first_value x j) (members v)) ∙ by_first (repeats v) ∙ sym (or_else_nothing _)) i;
    all = ((λ j. flat_map (λ x. sym (append-nil (r k.node u x.1 (Q // x.0))) j) (members v)) ∙ by_report (repeats v) ∙ sym (append-nil _)) i;
  }
    where
      by_first : (b : Bool) → first_of (member_first no_answers sides u v Q false k.location s) (members v)
          ≡ cond b (first_of (member_first no_answers sides u v Q false k.location s) (members v)) (first_of (member_first no_answers sides u v Q false k.location s) (members v))
      by_first true = refl
      by_first false = refl

      each : flat_map (member_report no_answers sides u v Q r) (members v)
          ≡ flat_map (member_report no_answers sides u v Q r) (members v) ++ unexpected_faults false (filter_once (λ x. false) (members v)) v k.location Q
      each = sym (append-nil _)
          ∙ ap (λ xs. flat_map (member_report no_answers sides u v Q r) (members v) ++ unexpected_faults false xs v k.location Q) (sym (filter_once-none (members v)))

      by_report : (b : Bool) → flat_map (member_report no_answers sides u v Q r) (members v)
          ≡ cond b (flat_map (member_report no_answers sides u v Q r) (members v) ++ unexpected_faults false (filter_once (λ x. false) (members v)) v k.location Q)
          (flat_map (member_report no_answers sides u v Q r) (members v) ++ unexpected_faults false (filter_once (λ x. false) (members v)) v k.location Q)
      by_report true = each
      by_report false = each

pub values_unasked : {N : Type 0} (m : N → Data → Question) (s r : N → Bool → Data → Path → List Fault) (u : Bool) (n : N) (v : Data) (Q : Path) → None ≡ as_object v → of_values m s r u n v Q ≡ unasked
values_unasked m s r u n v Q none = ap (of_each u (λ x. m n x.1) (λ x. s n u x.1 (Q // x.0)) (λ x. r n u x.1 (Q // x.0))) (no_members v none)

-- where there is no node either
abbrev pub nothing_means : ⊤ → Data → Question
nothing_means n w = always true

abbrev pub nothing_found : ⊤ → Bool → Data → Path → List Fault
nothing_found n u w Q = []

module _ (u : Bool) (k : AdditionalPropertiesFalse) (v : Data) (Q : Path) where
  all_kept : (xs : List (Name × Data)) → xs ≡ filter_once (λ x. true) xs
  all_kept [] = refl
  all_kept (x ∷ xs) = ap (λ l. x ∷ l) (all_kept xs)

  first_alone : (xs : List (Name × Data)) → unexpected_faults false xs v k.location Q ≡ first_of (λ x. unexpected_faults false (x ∷ []) v k.location Q) xs
  first_alone [] = refl
  first_alone (x ∷ xs) = refl

  told : unexpected_faults false (members v) v k.location Q
      ≡ flat_map (λ x. let none : List Fault = [] in none) (members v) ++ unexpected_faults false (filter_once (λ x. true) (members v)) v k.location Q
  told = λ i. sym (none_of (members v)) i ++ unexpected_faults false (all_kept (members v) i) v k.location Q

  pub no_members_held : of_no_members v k.location Q ≡ of_held no_answers no_costs nothing_means nothing_found nothing_found u (false_holds k) v Q
  no_members_held = λ i. record {
    accepts = no_member v u i;
    first = (first_alone (members v) ∙ twice (repeats v) _ ∙ sym (or_else_nothing _)) i;
    all = (told ∙ twice (repeats v) _ ∙ sym (append-nil _)) i;
  }
    where
      twice : (b : Bool) (fs : List Fault) → fs ≡ cond b fs fs
      twice true fs = refl
      twice false fs = refl

-- ---- the first member

module _ (v : Data) (P Q : Path) where
  abbrev pub told_first : List (Name × Data) → Outcome
  told_first xs = record { accepts = is_empty xs; first = unexpected_faults false xs v P Q; all = unexpected_faults false xs v P Q }

  pub none_told : members v ≡ [] → of_no_members v P Q ≡ unasked
  none_told = ap told_first

  pub first_own : {x : Name × Data} {more : List (Name × Data)} → members v ≡ x ∷ more → {k : Kind} → k ≡ FalseSchema → {O : Path} → O ≡ P → IsOwn (fault k x.1 Q O) (of_no_members v P Q)
  first_own {x} next {k} kind {O} place = subst (λ xs. IsOwn (fault k x.1 Q O) (told_first xs)) (sym next)
      (is_own FalseSchema x.1 P Q {accepts = false} {case = true} refl refl refl (like_at kind itself refl place))

-- the members of what is an object, by what a walk over its map has left at its start
pub members_of_walk : (v : Data) {all left : List (String Global × Value)} → Some (members_view all) ≡ as_object v → left ≡ all → members v ≡ listed (members_view left)
members_of_walk v {all} some whole = ap members (sym (object_is v (members_view all) some)) ∙ ap (λ es. listed (members_view es)) (sym whole)
