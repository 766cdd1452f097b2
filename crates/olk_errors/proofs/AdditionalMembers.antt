-- What asking the members comes to, with neighbours of `additionalProperties` beside it.
use Rattle.std.proofs.Common.{◌≡◌, ℕ, Bool, true, false, true≢false, not, ◌&&◌, cond, List, [], ◌∷◌, ◌++◌, map, Option, Some, None, is_none, is_some, option_to_list, refl, sym, ap, subst, ◌∙◌, inr, Result, Ok, Err}
use mathlib.Core.Path.{subst₂}
use Rattle.std.proofs.Math.Bool.{and_assoc}
use Rattle.std.proofs.lemmas.List.{append_assoc, append-nil, map-append}
use Rattle.std.specs.List.{flat_map, Contains}
use Rattle.std.specs.Result.{IsErr}
use Rattle.std.proofs.lemmas.List.Elements.{Contains-append_right}
use Rattle.serde_json.specs.Data.{Data}
use Rattle.serde_json.specs.Find.{as_object}
use Rattle.olk_spec.specs.Names.{Name, Path, ◌//◌, filter_once, put_if, is_empty}
use Rattle.olk_spec.specs.World.{Says}
use Rattle.olk_spec.specs.Faults.{Fault}
use Rattle.olk_spec.specs.Schemas.{members}
use Rattle.olk_spec.specs.Malformed.{has_repeat}
use Rattle.olk_base.specs.Lawful.{Asking}
use Rattle.olk_tree.specs.Questions.{Question, every}
use Rattle.olk_tree.specs.Additional.{Sides, at_name, nodes_matching, is_additional, nodes_asked, is_unexpected, repeats, member_means, member_report, member_first, means_in_turn, report_in_turn, first_in_turn, named_means, named_report, named_first}
use Rattle.olk_tree.specs.AdditionalAgreement.{member_accepted}
use Rattle.olk_tree.specs.Firsts.{or_else, first_of}
use Rattle.olk_tree.proofs.Faults.{or_around}
use Rattle.olk_tree.proofs.Members_met.{no_members}
use Rattle.olk_check.specs.Asks.{OnlyAsks, IsAnswer}
use Rattle.olk_check.proofs.Asked.{only_same, only_then, answer_first, answer_then, own_answer}
use Rattle.olk_errors.specs.Found.{Outcome, Passes, IsErrorOf}
use Rattle.olk_errors.specs.Outcomes.{of_branches, declared_nodes, unspoken_from, asked_at, unexpected_at, of_unexpected, of_asked_members}
use Rattle.olk_errors.specs.Sinks.{wants_one, GoesOn, Stopped, EndsAlone, Walks}
use Rattle.olk_errors.specs.declared.sink.ErrorSink.{ErrorSink}
use Rattle.olk_errors.specs.declared.sink.Stop.{Stop}
use Rattle.olk_errors.proofs.Sinks.{after, unasked, contains_first, goes_after, goes_same, goes_keeping, goes_passing, goes_either, stopped_where, stopped_same, stopped_before, stopped_after, ends_left, ends_through}
use Rattle.olk_errors.proofs.Unexpected.{told_of_one, kept_of_first, told_by_name}

not_some : {A : Type 0} (o : Option A) → not (is_some o) ≡ is_none o
not_some None = refl
not_some (Some x) = refl

put_name : (b : Bool) (x : Name × Data) (xs : List (Name × Data)) → put_if b x.0 [] ++ map (λ y. y.0) xs ≡ map (λ y. y.0) (put_if b x xs)
put_name true x xs = refl
put_name false x xs = refl

never_empty : {A : Type 0} (xs : List A) (x : A) → is_empty (xs ++ x ∷ []) ≡ false
never_empty [] x = refl
never_empty (y ∷ ys) x = refl

pub map_more : {A B : Type 0} (f : A → B) (old : List A) (x : A) {new : List A} → new ≡ old ++ x ∷ [] → map f new ≡ map f old ++ f x ∷ []
map_more f old x grown = ap (map f) grown ∙ map-append f old (x ∷ [])

none_is_one : (f : Fault) → f ∷ [] ≡ [] → ⊥
none_is_one f h = cc

module _ {R N : Type 0} (answers : R → Name → Says) (u : Bool) (S : Sides R N) (n : Name) where
  alone_is : unspoken_from answers u S (at_name S n) n (is_some (at_name S n)) 0 S.patterns ≡ is_additional answers S u n
  alone_is = ap (λ b. b && is_empty (nodes_matching answers S u n)) (not_some (at_name S n))

  asked_is : asked_at answers u S (at_name S n) n ≡ nodes_asked answers S u n
  asked_is = ap (λ b. declared_nodes (at_name S n) ++ (nodes_matching answers S u n ++ cond b (option_to_list S.rest) [])) alone_is

  unexpected_is : unexpected_at answers u S (at_name S n) n ≡ is_unexpected answers S u n
  unexpected_is = ap (λ b. is_none S.rest && b) alone_is

-- ---- all members

module _ {R N : Type 0} (answers : R → Name → Says) (costs : R → Bool) (m : N → Data → Question) (s r : N → Bool → Data → Path → List Fault) (S : Sides R N) (v : Data)
    (P Q : Path) where
  abbrev asked_of : Name × Data → Question
  asked_of x = member_means answers costs m S x.0 x.1

  abbrev first_found : Bool → Name × Data → List Fault
  first_found u x = member_first answers S u v Q true P s x

  abbrev all_found : Bool → Name × Data → List Fault
  all_found u x = member_report answers S u v Q r x

  abbrev not_expected : Bool → Name × Data → Bool
  not_expected u x = is_unexpected answers S u x.0

  abbrev names_left : Bool → List (Name × Data) → List Name
  names_left u xs = map (λ x. x.0) (filter_once (not_expected u) xs)

  abbrev told : List Name → List Fault
  told ns = (of_unexpected ns v P Q).all

  abbrev pub by_members : Bool → Outcome
  by_members u = of_asked_members answers costs m s r u S v P Q

  -- the rest of the members, where these names are put aside, which are not expected
  abbrev of_left : Bool → List Name → List (Name × Data) → Outcome
  of_left u aside rest = record {
    accepts = (every asked_of rest).accepts u;
    first = first_of (first_found u) rest;
    all = flat_map (all_found u) rest ++ told (aside ++ names_left u rest);
  }

  -- where no name is repeated
  in_turn : (u : Bool) → repeats v ≡ false → of_left u [] (members v) ≡ by_members u
  in_turn u distinct = λ i. record {
    accepts = (cond (sym distinct i) (named_means answers costs m S v) (means_in_turn answers costs m S v)).accepts u;
    first = cond (sym distinct i) (named_first answers S u v Q true P s) (first_in_turn answers S u v Q true P s);
    all = (ap (λ l. flat_map (all_found u) (members v) ++ l) (told_by_name v P Q (filter_once (not_expected u) (members v)))
        ∙ ap (λ b. cond b (named_report answers S u v Q true P r) (report_in_turn answers S u v Q true P r)) (sym distinct)) i;
  }

  -- what is asked of a member, with this declared at its name
  abbrev of_asked : Bool → Option (ℕ × N) → Name × Data → Outcome
  of_asked u d x = of_branches m s r u (asked_at answers u S d x.0) x.1 (Q // x.0)

  module _ (u : Bool) (aside : List Name) (more : List (Name × Data)) (x : Name × Data) where
    -- what is left after that: whether the member is expected, and the others
    abbrev of_others : Outcome
    of_others = record {
      accepts = not (not_expected u x) && (every asked_of more).accepts u;
      first = or_else (cond (not_expected u x) (told (x.0 ∷ [])) []) (first_of (first_found u) more);
      all = flat_map (all_found u) more ++ told (aside ++ names_left u (x ∷ more));
    }

    with_others : {d : Option (ℕ × N)} → d ≡ at_name (S) x.0 → after (of_asked u d x) of_others ≡ of_left u aside (x ∷ more)
    with_others {d} declared = let nodes = nodes_asked answers (S) u x.0 in ap (λ ns. after (of_branches m s r u ns x.1 (Q // x.0)) of_others)
        (ap (λ e. asked_at answers u (S) e x.0) declared ∙ asked_is answers u (S) x.0)
        ∙ (λ i. record {
          accepts = (sym (and_assoc ((every (λ n. m n x.1) nodes).accepts u) (not (not_expected u x)) ((every asked_of more).accepts u))
              ∙ ap (λ b. b && (every asked_of more).accepts u) (sym (member_accepted answers costs m (S) x.0 x.1 u))) i;
          first = sym (or_around (first_of (λ n. s n u x.1 (Q // x.0)) nodes) (cond (not_expected u x) (told (x.0 ∷ [])) []) (first_of (first_found u) more)) i;
          all = sym (append_assoc (all_found u x) (flat_map (all_found u) more) (told (aside ++ names_left u (x ∷ more)))) i;
        })

    module _ {longer : List Name} (put : longer ≡ aside ++ put_if (not_expected u x) x.0 []) where
      all_others : (of_left u longer more).all ≡ of_others.all
      all_others = ap (λ l. flat_map (all_found u) more ++ told l) (ap (λ l. l ++ names_left u more) put
          ∙ append_assoc aside (put_if (not_expected u x) x.0 []) (names_left u more)
          ∙ ap (λ l. aside ++ l) (put_name (not_expected u x) x (filter_once (not_expected u) more)))

      -- where the member is expected
      only_others : not_expected u x ≡ false → of_left u longer more ≡ of_others
      only_others e = λ i. record {
        accepts = not (sym e i) && (every asked_of more).accepts u;
        first = or_else (cond (sym e i) (told (x.0 ∷ [])) []) (first_of (first_found u) more);
        all = all_others i;
      }

  told_of_others : (u : Bool) (more : List (Name × Data)) (x : Name × Data) → not_expected u x ≡ true → (f : Fault) → f ∷ [] ≡ told (x.0 ∷ []) → IsErrorOf (of_others u [] more x) f
  told_of_others u more x e f is =
      let o = told_of_one v P Q x.0 is in
      let w = kept_of_first v P Q x.0 (names_left u more) is in
      record {
        verdict = ap (λ b. not b && (every asked_of more).accepts u) e;
        of_first = record {
          one = o.one;
          among =
              subst (λ b. Contains (or_else (cond b (told (x.0 ∷ [])) []) (first_of (first_found u) more)) o.one) (sym e) (contains_first (told (x.0 ∷ [])) (first_of (first_found u) more) o.one o.among);
          like = o.like;
        };
        of_all = record {
          whole = w.whole;
          among = subst (λ b. Contains (flat_map (all_found u) more ++ told (map (λ y. y.0) (put_if b x (filter_once (not_expected u) more)))) w.whole) (sym e)
              (Contains-append_right (flat_map (all_found u) more) (told (x.0 ∷ names_left u more)) w.whole w.among);
          like = w.like;
        };
      }

  -- ---- the walk

  -- what a walk over the rest does from now on, where these names are put aside, is what a walk over all does from the start; where one error is wanted, none is put aside
  pub record WalkingMembers (rest : List (Name × Data)) (aside : List Name) (old new : ErrorSink) (a b : Asking) : Type 0 where
    pub on : (u : Bool) → IsAnswer a b u → (newer : ErrorSink) → GoesOn new newer (of_left u aside rest) → GoesOn old newer (by_members u)
    pub stop : (u : Bool) → IsAnswer a b u → (newer : ErrorSink) → Stopped new newer (IsErrorOf (of_left u aside rest)) → Stopped old newer (IsErrorOf (by_members u))
    pub none : wants_one new ≡ true → aside ≡ []
    pub only : OnlyAsks a b

  pub members_start : {a : Asking} {rest : List (Name × Data)} {aside : List Name} {old : ErrorSink} → repeats v ≡ false → rest ≡ members v → aside ≡ [] → WalkingMembers rest aside old old a a
  members_start {a} {old = old} distinct all none = subst₂ (λ l xs. WalkingMembers l xs old old a a) (sym all) (sym none)
      (record { on = λ u so newer. goes_same (in_turn u distinct); stop = λ u so newer. stopped_same (in_turn u distinct); none = λ one. refl; only = only_same a })

  module _ {rest : List (Name × Data)} {aside : List Name} {old new : ErrorSink} {a b : Asking} (loop : WalkingMembers rest aside old new a b) where
    module _ {x : Name × Data} {more : List (Name × Data)} (next : rest ≡ x ∷ more) {d : Option (ℕ × N)} (declared : d ≡ at_name (S) x.0) {newer : ErrorSink} {c : Asking} where
      -- the walk over the member was stopped
      pub members_stop : {T : Type 0} {t : Stop} → Walks {T = T} (Err t) new newer b c (λ u. of_asked u d x) → Walks {T = T} (Err t) old newer a c by_members
      members_stop h = record {
        ends = λ u so. record {
          so = loop.stop u (answer_first loop.only h.only so) newer (subst (λ l. Stopped new newer (IsErrorOf (of_left u aside l))) (sym next)
              (stopped_same (with_others u aside more x declared) (stopped_before (of_others u aside more x) (h.ends u (answer_then loop.only h.only so)).so)));
        };
        only = only_then loop.only h.only;
      }

      -- it went to its end, and says whether the member is not expected
      module _ {told_so : Bool} (walked : Walks (Ok told_so) new newer b c (λ u. of_asked u d x)) where
        abbrev only : OnlyAsks a c
        only = only_then loop.only walked.only

        module _ (u : Bool) (so : IsAnswer a c u) where
          before : IsAnswer a b u
          before = answer_first loop.only walked.only so

          walked_at : GoesOn new newer (of_asked u d x)
          walked_at = (walked.ends u (answer_then loop.only walked.only so)).so

          goes_left : {newest : ErrorSink} → GoesOn newer newest (of_others u aside more x) → GoesOn new newest (of_left u aside rest)
          goes_left {newest} h = subst (λ l. GoesOn new newest (of_left u aside l)) (sym next) (goes_same (with_others u aside more x declared) (goes_after walked_at h))

          stops_left : {newest : ErrorSink} → Stopped newer newest (IsErrorOf (of_others u aside more x)) → Stopped new newest (IsErrorOf (of_left u aside rest))
          stops_left {newest} h = subst (λ l. Stopped new newest (IsErrorOf (of_left u aside l))) (sym next)
              (stopped_same (with_others u aside more x declared) (stopped_after walked_at h))

        same_sink : wants_one newer ≡ wants_one new
        same_sink = (walked_at a.answer own_answer).same

        -- there was no memory to put it aside
        pub members_cut : {T : Type 0} {r : Result T Stop} → IsErr r → Walks r old newer a c by_members
        members_cut e = record { ends = λ u so. ends_left e (loop.stop u (before u so) newer (inr (goes_keeping (walked_at u so)))); only = only }

        module _ (is : (u : Bool) → IsAnswer b c u → told_so ≡ unexpected_at answers u (S) d x.0) where
          is_so : (u : Bool) → IsAnswer a c u → not_expected u x ≡ told_so
          is_so u so = sym (is u (answer_then loop.only walked.only so) ∙ ap (λ e. unexpected_at answers u (S) e x.0) declared ∙ unexpected_is answers u (S) x.0)

          members_on : {longer : List Name} → longer ≡ aside ++ put_if told_so x.0 [] → (wants_one newer ≡ true → told_so ≡ false) → (wants_one newer ≡ true → longer ≡ [])
              → WalkingMembers more longer old newer a c
          members_on {longer} put one none = record {
            on = λ u so newest h. loop.on u (before u so) newest (goes_left u so (goes_either (of_others u aside more x)
                (λ w. subst Passes (only_others u aside more x (grown u so) (is_so u so ∙ one w))) (all_others u aside more x (grown u so)) h));
            stop = λ u so newest h. loop.stop u (before u so) newest (stops_left u so (stopped_where
                (λ w f. subst (λ o. IsErrorOf o f) (only_others u aside more x (grown u so) (is_so u so ∙ one w))) h));
            none = none;
            only = only;
          }
            where
              grown : (u : Bool) → IsAnswer a c u → longer ≡ aside ++ put_if (not_expected u x) x.0 []
              grown u so = put ∙ ap (λ e. aside ++ put_if e x.0 []) (sym (is_so u so))

          -- it is expected
          pub members_more : told_so ≡ false → WalkingMembers more aside old newer a c
          members_more e = members_on (sym (append-nil aside) ∙ ap (λ o. aside ++ put_if o x.0 []) (sym e)) (λ w. e) (λ w. loop.none (sym same_sink ∙ w))

          module _ (e : told_so ≡ true) {longer : List Name} (put : longer ≡ aside ++ x.0 ∷ []) where
            -- it is not, and all are wanted
            pub members_aside : wants_one newer ≡ false → WalkingMembers more longer old newer a c
            members_aside all = members_on (put ∙ ap (λ o. aside ++ put_if o x.0 []) (sym e)) (λ w. absurd (true≢false (sym w ∙ all))) (λ w. absurd (true≢false (sym w ∙ all)))

            -- it is not, and one error is wanted
            pub members_told : {newest : ErrorSink} {T : Type 0} {r : Result T Stop} → wants_one newer ≡ true → EndsAlone r newer newest (of_unexpected longer v P Q) → Walks r old newest a c by_members
            members_told {newest} w h = record {
              ends = λ u so. ends_through
                  (λ g. absurd (true≢false (sym (goes_passing w g).verdict ∙ ap is_empty put ∙ never_empty aside x.0)))
                  (λ g. let nothing : aside ≡ [] = loop.none (sym same_sink ∙ w) in
                  loop.stop u (before u so) newest (stops_left u so (subst (λ l. Stopped newer newest (IsErrorOf (of_others u l more x))) (sym nothing)
                  (stopped_where (λ o f is. told_of_others u more x (is_so u so ∙ e) f (is ∙ ap told (put ∙ ap (λ l. l ++ x.0 ∷ []) nothing))) g)))) h;
              only = only;
            }

    -- no member is left
    pub members_end : rest ≡ [] → {newer : ErrorSink} {T : Type 0} {r : Result T Stop} → EndsAlone r new newer (of_unexpected aside v P Q) → Walks r old newer a b by_members
    members_end none {newer} h = record {
      ends = λ u so. ends_through
          (λ g. loop.on u so newer (subst (λ l. GoesOn new newer (of_left u aside l)) (sym none)
          (goes_either (of_left u aside []) (λ w p. record { verdict = refl; nothing = refl }) (ap told (sym (append-nil aside))) g)))
          (λ g. loop.stop u so newer (stopped_where (λ w f is. absurd (none_is_one f (is ∙ ap told (loop.none w)))) g)) h;
      only = loop.only;
    }

  -- ---- of what is no object

  pub other_unasked : (u : Bool) → None ≡ as_object v → by_members u ≡ unasked
  other_unasked u none = sym (in_turn u (ap (λ ms. has_repeat (map (λ x. x.0) ms)) (no_members v none))) ∙ ap (of_left u []) (no_members v none)
