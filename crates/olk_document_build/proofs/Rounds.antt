-- Texts and nodes, round by round: lists that grow, and targets that are added.
use Rattle.std.proofs.Common.{◌≡◌, ℕ, zero, suc, ◌+◌, ◌<◌, ◌≤◌, ◌⊎◌, inl, inr, ⊎_elim, Bool, true, false, cond, List, [], ◌∷◌, ◌++◌, map, take, drop, length, Contains, Bor, Option, Some, None, option_map, option_to_list, is_some, ◌≢◌, not, ◌&&◌, ◌||◌, ◌==◌, MatchOption, unwrap_or, refl, sym, ◌∙◌, ap, subst, arith, append-nil, true≢false, eqb-true}
use Rattle.std.proofs.Common.{slice_index_or as get_or}
use Rattle.std.specs.List.{flat_map, Any, dedup}
use Rattle.std.specs.List.Sorted.{IsPermutation}
use Rattle.std.specs.List.Retain.{IsFiltered, DiffersFromLast}
use Rattle.std.specs.Cmp.{IsEquivalence}
use Rattle.std.specs.Str.{bytes_eq}
use Rattle.std.proofs.lemmas.Cmp.{nat_list_eq_equiv}
use Rattle.std.proofs.lemmas.List.{map-append, take_more, take_all, drop_more, drop_all}
use Rattle.std.proofs.lemmas.List.Elements.{Contains-get_or, Contains-append_left, Contains-append_cases, Contains-push, Contains-push_cases}
use Rattle.std.proofs.lemmas.List.Filters.{dedup_is}
use Rattle.std.proofs.lemmas.List.Kept.{Any-dedup, Contains-from_dedup}
use Rattle.std.proofs.lemmas.List.Sorted.{Contains-permutation, IsPermutation-sym}
use Rattle.std.proofs.lemmas.Slice.Eq.{bytes_eq-Decides}
use Rattle.serde_json.specs.Data.{Data}
use Rattle.serde_json.specs.Find.{pointer}
use Rattle.olk_spec.specs.Names.{Text}
use Rattle.olk_spec.specs.Faults.{Fault}
use Rattle.olk_spec.specs.World.{World}
use Rattle.olk_spec.proofs.Each.{Each, Each-implies}
use Rattle.olk_base.specs.Count.{Counts}
use Rattle.olk_base.specs.Kit.{Kit}
use Rattle.olk_reports.specs.declared.error.BuildError.{BuildError}
use Rattle.olk_meaning.specs.Steps.{malformations_at}
use Rattle.olk_build.specs.Building.{IsBuilt, RefusesSchema}
use Rattle.olk_build.specs.Refusing.{TellsOneOf}
use Rattle.olk_build.proofs.Spending.{tells}
use Rattle.olk_document_spec.specs.Documents.{place_named, has_percent, has_open_tilde}
use Rattle.olk_document_spec.specs.Malformed.{malformed_targets}
use Rattle.olk_documents.specs.Nodes.{answers}
use Rattle.olk_documents.specs.declared.node.DocumentNode.{DocumentNode}
use Rattle.olk_document_meaning.specs.Places.{Referred}
use Rattle.olk_document_build.specs.Documents.{HaveTheSame, told, references_behind, faults_behind, with_texts, HasMore, StandsFrom, AreTargets, IsMade, AreMade, IsMadeUnder, RefusesText, AreMadeUnder, RefusesTexts}
use Rattle.olk_document_build.specs.Kits.{document_of}
use Rattle.olk_document_build.specs.References.{as_texts}
use Rattle.olk_document_build.specs.Targets.{target_of, TargetsStand}
use Rattle.olk_document_build.specs.declared.targets.Targets.{Targets}
use Rattle.olk_document_build.proofs.Documents.{nothing_there, Each-contains, Contains-flat_map, from_each, at_no_place, told_before, known, known_stand, place_is_target, place_refused}

-- ---- texts without repeats

pub none_of_none : {X : Type 0} (xs : List X) → length xs ≡ 0 → xs ≡ []
none_of_none [] e = refl
none_of_none (x ∷ xs) e = absurd (omega arith)

module _ {X Y : Type 0} (f : X → Y) where
  Contains-map : (xs : List X) (x : X) → Contains xs x → Contains (map f xs) (f x)
  Contains-map xs x c = every xs c
    where
      every : (xs : List X) → Contains xs x → Contains (map f xs) (f x)
      every [] c = absurd (nothing_there x c)
      every (y ∷ ys) (zero, l, e) = (0, omega arith, ap f e)
      every (y ∷ ys) (suc k, l, e) = let r = every ys (k, omega arith, e) in let m : r.0 < length (map f ys) = r.1 in (suc r.0, omega arith, r.2)

  from_map : (xs : List X) (y : Y) → Contains (map f xs) y → (x : X) × Contains xs x × (f x ≡ y)
  from_map [] y c = absurd (nothing_there y c)
  from_map (x ∷ xs) y (zero, l, e) = (x, (0, omega arith, refl), e)
  from_map (x ∷ xs) y (suc k, l, e) = let r = from_map xs y (k, omega arith, e) in let m : r.1.0 < length xs = r.1.1 in (r.0, (suc r.1.0, omega arith, r.1.2), r.2)

abbrev same_text : Bor Text → Bor Text → Bool
same_text a b = bytes_eq a.now b.now

same_texts_equivalent : IsEquivalence same_text
same_texts_equivalent = record {
  refl = λ a. nat_list_eq_equiv.refl a.now;
  symm = λ a b. nat_list_eq_equiv.symm a.now b.now;
  congr = λ a b c. nat_list_eq_equiv.congr a.now b.now c.now;
}

module _ (xs ys zs : List (Bor Text)) where
  -- sorted, and without those that are like the one before
  pub same_without_repeats : IsPermutation xs ys → IsFiltered (DiffersFromLast same_text) [] ys zs → HaveTheSame (as_texts xs) (as_texts zs)
  same_without_repeats sorted filtered = record { there = there; back = back }
    where
      kept : zs ≡ dedup same_text ys
      kept = dedup_is same_text ys zs filtered

      there : (t : Text) → Contains (as_texts xs) t → Contains (as_texts zs) t
      there t c =
          let x = from_map (λ a. a.now) xs t c in
          let a = Any-dedup same_texts_equivalent ys x.0 (Contains-permutation xs ys x.0 sorted x.1) in
          let same : x.0.now ≡ a.1.now = (bytes_eq-Decides x.0.now a.1.now).0 a.4 in
          subst (λ l. Contains (as_texts l) t) (sym kept) (subst (Contains (as_texts (dedup same_text ys))) (sym same ∙ x.2) (Contains-map (λ b. b.now) (dedup same_text ys) a.1 (a.0, a.2, a.3)))

      back : (t : Text) → Contains (as_texts zs) t → Contains (as_texts xs) t
      back t c =
          let z = from_map (λ a. a.now) zs t c in
          let in_sorted = Contains-from_dedup same_text ys z.0 (subst (λ l. Contains l z.0) kept z.1) in
          subst (Contains (as_texts xs)) z.2 (Contains-map (λ a. a.now) xs z.0 (Contains-permutation ys xs z.0 (IsPermutation-sym xs ys sorted) in_sorted))

-- ---- texts up to a position, and from it on

module _ (ts : List (Bor Text)) where
  abbrev pub texts_to : ℕ → List Text
  texts_to i = as_texts (take i ts)

  abbrev pub texts_from : ℕ → List Text
  texts_from i = as_texts (drop i ts)

  module _ (i : ℕ) where
    pub text_passed : (d : Bor Text) → i < length ts → texts_to (i + 1) ≡ texts_to i ++ (get_or ts i d).now ∷ []
    text_passed d l = ap as_texts (take_more ts i d l) ∙ map-append (λ a. a.now) (take i ts) (get_or ts i d ∷ [])

    pub next_text : {t : Bor Text} → i < length ts → t ≡ get_or ts i t → texts_from i ≡ t.now ∷ texts_from (i + 1)
    next_text {t} l e = ap as_texts (drop_more ts i t l ∙ ap (λ a. a ∷ drop (i + 1) ts) (sym e))

    pub no_text : length ts ≤ i → texts_from i ≡ []
    no_text l = ap as_texts (drop_all i ts l)

    pub text_among : (d : Bor Text) → i < length ts → Contains (as_texts ts) (get_or ts i d).now
    text_among d l = Contains-map (λ a. a.now) ts (get_or ts i d) (Contains-get_or ts i d l)

    pub all_texts : length ts ≤ i → texts_to i ≡ as_texts ts
    all_texts l = ap as_texts (take_all i ts l)

-- ---- what is told

module _ (W : World) (D : Data) (k : ℕ) where
  told_among : (ts us : List Text) → ((t : Text) → Contains us t → Contains ts t) → (f : Fault) → Contains (faults_behind W D k us) f → Contains (faults_behind W D k ts) f
  told_among ts us among = from_each (Contains (faults_behind W D k ts)) (λ t. told (malformed_targets W D k t)) us
      (Each-implies (Contains us) _ (λ t c f. Contains-flat_map (λ t. told (malformed_targets W D k t)) ts t f (among t c)) us (Each-contains us))

module _ (W : World) (D : Data) {ts us : List Text} (same : HaveTheSame ts us) (k : ℕ) where
  pub refused_round : (e : BuildError) → TellsOneOf (faults_behind W D k us) e → TellsOneOf (faults_behind W D k ts) e
  refused_round = tells _ _ (told_among W D k ts us same.back)

  pub refused_behind : (e : BuildError) → TellsOneOf (faults_behind W D k (references_behind W D us)) e → TellsOneOf (faults_behind W D (suc k) ts) e
  refused_behind = tells _ _ (λ f c. told_among W D (suc k) ts us same.back f (told_before W D k us f c))

-- ---- nodes of a round

module _ {K R : Type 0} where
  pub with_texts_more : (ns : List (Bor Text × DocumentNode K R)) (t : Bor Text) (n : DocumentNode K R) → with_texts (ns ++ (t, n) ∷ []) ≡ with_texts ns ++ (t.now, n) ∷ []
  with_texts_more ns t n = map-append (λ e. (e.0.now, e.1)) ns ((t, n) ∷ [])

pub had : {X Y : Type 0} (f : X → Y) (r : Option X) {s : Option Y} → is_some r ≡ true → option_map f r ≡ s → (y : Y) × (s ≡ Some y)
had f None e p = absurd (true≢false (sym e))
had f (Some x) e p = (f x, sym p)

-- the text of a reference begins with `#`
begins_with_hash : (D : Data) (t : Text) {d : Data} → place_named D t ≡ Some d → t ≡ 35 ∷ drop 1 t
begins_with_hash D [] {d} e = let p : None ≡ Some d = e in cc
begins_with_hash D (b ∷ t) {d} e = by (b == 35) refl
  where
    by : (z : Bool) → (b == 35) ≡ z → b ∷ t ≡ 35 ∷ t
    by true q = ap (λ n. n ∷ t) (eqb-true b 35 q)
    by false q = let p : None ≡ Some d = sym (ap (λ z. cond (z && not (has_percent t || has_open_tilde t)) (pointer t D) None) q) ∙ e in cc

pub behind_hash : (r : Option (Bor Text)) (d : Bor Text) (t : Text) → MatchOption r ((rest : Text) → t ≢ 35 ∷ rest) (λ p. t ≡ 35 ∷ p.now) → (rest : Text) → t ≡ 35 ∷ rest → (unwrap_or r d).now ≡ rest
behind_hash None d t h rest e = absurd (h rest e)
behind_hash (Some p) d t h rest e = let q : 35 ∷ p.now ≡ 35 ∷ rest = sym h ∙ e in cc

module _ {K R : Type 0} (o : Kit K R) (D : Data) (T : Targets K R) where
  -- what is built, or refused, for the place that a text names, whatever the targets stand for
  module _ (t : Text) {d : Data} (e : place_named D t ≡ Some d) {L : Text} (at : (rest : Text) → t ≡ 35 ∷ rest → L ≡ rest) {old new : Counts} where
    pub made_there : {n : DocumentNode K R} → ((F : Referred) → TargetsStand o F T → IsBuilt (document_of o F) (answers o) n d L old new) → IsMadeUnder o D T t (Some n)
    made_there b k us h zero l = absurd (omega arith)
    made_there {n} b k us h (suc m) l = place_is_target o D t h e m (omega arith)
        (subst (λ P. IsBuilt (document_of o (known o D T m)) (answers o) n d P old new) (at (drop 1 t) (begins_with_hash D t e)) (b (known o D T m) (known_stand o D h m (omega arith))))

    pub refused_there : (f : BuildError) → ((F : Referred) → TargetsStand o F T → RefusesSchema (document_of o F) d L old new f) → RefusesText o D T t f
    refused_there f b k ts h c = place_refused o D ts t h c e f
        (subst (λ P. TellsOneOf (malformations_at (document_of o (known o D T k)).steps d P) f) (at (drop 1 t) (begins_with_hash D t e)) (b (known o D T k) (known_stand o D h k (omega arith))).tells)

  pub none_made : AreMadeUnder o D T [] []
  none_made k us h = record { stand = λ t n c. absurd (nothing_there (t, n) c); others = λ t c. absurd (nothing_there t c) }

  module _ (ts : List Text) (ns : List (Text × DocumentNode K R)) (t : Text) where
    one_passed : (k : ℕ) (ms : List (Text × DocumentNode K R)) → ((p : Text × DocumentNode K R) → Contains ns p → Contains ms p) → AreMade o D (suc k) ts T ns
        → (target_of T t ≡ None → (place_named D t ≡ None) ⊎ ((n : DocumentNode K R) × Contains ms (t, n)))
        → (s : Text) → Contains (ts ++ t ∷ []) s → target_of T s ≡ None → (place_named D s ≡ None) ⊎ ((n : DocumentNode K R) × Contains ms (s, n))
    one_passed k ms more h last s c e = ⊎_elim
        (λ there. ⊎_elim (λ p. inl p) (λ m. inr (m.0, more (s, m.0) m.1)) (h.others s there e))
        (λ same. subst (λ r. (place_named D r ≡ None) ⊎ ((n : DocumentNode K R) × Contains ms (r, n))) same (last (ap (target_of T) same ∙ e)))
        (Contains-push_cases ts t s c)

    pub one_had : {n : DocumentNode K R} → target_of T t ≡ Some n → AreMadeUnder o D T ts ns → AreMadeUnder o D T (ts ++ t ∷ []) ns
    one_had e made k us h = let m = made k us h in record {
      stand = m.stand;
      others = one_passed k ns (λ p c. c) m (λ none. let q : Some _ ≡ None = sym e ∙ none in cc);
    }

    pub one_nowhere : IsMadeUnder o D T t None → AreMadeUnder o D T ts ns → AreMadeUnder o D T (ts ++ t ∷ []) ns
    one_nowhere nowhere made k us h = let m = made k us h in record { stand = m.stand; others = one_passed k ns (λ p c. c) m (λ none. inl (nowhere k us h)) }

    pub one_made : {n : DocumentNode K R} → IsMadeUnder o D T t (Some n) → AreMadeUnder o D T ts ns → AreMadeUnder o D T (ts ++ t ∷ []) (ns ++ (t, n) ∷ [])
    one_made {n} new made k us h =
        let m = made k us h in
        record {
          stand = λ s x c. ⊎_elim (m.stand s x) (λ same. subst (λ p. StandsFrom o D (suc k) p.1 p.0) same (new k us h)) (Contains-push_cases ns (t, n) (s, x) c);
          others = one_passed k (ns ++ (t, n) ∷ []) (λ p. Contains-append_left ns ((t, n) ∷ []) p) m (λ none. inr (n, Contains-push ns (t, n)));
        }

  pub refused_one : (ts : List Text) (t : Text) → Contains ts t → (e : BuildError) → RefusesText o D T t e → RefusesTexts o D T ts e
  refused_one ts t c e r k h = r k ts h c

module _ {K R : Type 0} (o : Kit K R) (D : Data) where
  pub no_targets_at_all : {ts : List Text} {T : Targets K R} → ((t : Text) → target_of T t ≡ None) → AreTargets o D 0 ts T
  unfolding malformed_targets
  no_targets_at_all none = record { stand = λ t n e. let q : None ≡ Some n = sym (none t) ∙ e in cc; others = λ t c e. refl }

  pub no_targets_for_none : (k : ℕ) {T : Targets K R} → ((t : Text) → target_of T t ≡ None) → AreTargets o D k [] T
  no_targets_for_none k none = record { stand = λ t n e. let q : None ≡ Some n = sym (none t) ∙ e in cc; others = λ t c. absurd (nothing_there t c) }

  -- with the nodes of a round beside those behind it
  pub round_added : (k : ℕ) {ts us : List Text} {T new : Targets K R} {ns : List (Text × DocumentNode K R)} → HaveTheSame ts us → AreTargets o D k (references_behind o.world D us) T
      → AreMadeUnder o D T us ns → HasMore T ns new → AreTargets o D (suc k) ts new
  round_added k {us} same h made more =
      let m = made k (references_behind o.world D us) h in
      record {
        stand = λ t n e i l. ⊎_elim (λ old. h.stand t n old i (omega arith)) (λ c. m.stand t n c i l) (more.among t n e);
        others = λ t c e. ⊎_elim (at_no_place o.world D (suc k) t) (λ n. absurd (more.added t e n.0 n.1)) (m.others t (same.there t c) (more.kept t e));
      }

-- ---- targets that are added, one after another

pub one_put : {X Y : Type 0} (f : X → Y) (b : Bool) (x : X) (r : Option X) → option_map f (cond b (Some x) r) ≡ cond b (Some (f x)) (option_map f r)
one_put f true x r = refl
one_put f false x r = refl

module _ {K R : Type 0} where
  -- these are the targets T with all but those of all that are left
  pub record MoreSoFar (T : Targets K R) (all left : List (Text × DocumentNode K R)) (now : Targets K R) : Type 0 where
    pub inside : (p : Text × DocumentNode K R) → Contains left p → Contains all p
    pub among : (t : Text) (n : DocumentNode K R) → target_of now t ≡ Some n → (target_of T t ≡ Some n) ⊎ Contains all (t, n)
    pub kept : (t : Text) → target_of now t ≡ None → target_of T t ≡ None
    pub added : (t : Text) → target_of now t ≡ None → (n : DocumentNode K R) → Contains all (t, n) → Contains left (t, n)

  pub none_added : (T : Targets K R) (all : List (Text × DocumentNode K R)) → MoreSoFar T all all T
  none_added T all = record { inside = λ p c. c; among = λ t n e. inl e; kept = λ t e. e; added = λ t e n c. c }

  pub all_added : {T now : Targets K R} {all : List (Text × DocumentNode K R)} → MoreSoFar T all [] now → HasMore T all now
  all_added h = record { among = h.among; kept = h.kept; added = λ t e n c. nothing_there (t, n) (h.added t e n c) }

  module _ {T now new : Targets K R} {all : List (Text × DocumentNode K R)} (rest : List (Text × DocumentNode K R)) (s : Text) (x : DocumentNode K R) where
    pub one_added : ((t : Text) → target_of new t ≡ cond (bytes_eq s t) (Some x) (target_of now t)) → MoreSoFar T all (rest ++ (s, x) ∷ []) now → MoreSoFar T all rest new
    one_added put h = record {
      inside = λ p c. h.inside p (Contains-append_left rest ((s, x) ∷ []) p c);
      among = λ t n e. among t n (bytes_eq s t) refl (sym (put t) ∙ e);
      kept = λ t e. h.kept t (old t (bytes_eq s t) refl (sym (put t) ∙ e)).0;
      added = λ t e n c. let o = old t (bytes_eq s t) refl (sym (put t) ∙ e) in
          ⊎_elim (λ there. there) (λ same. absurd (true≢false (apart_from_itself t (sym (ap (λ p. p.0) same)) o.1))) (Contains-push_cases rest (s, x) (t, n) (h.added t o.0 n c));
    }
      where
        among : (t : Text) (n : DocumentNode K R) (b : Bool) → bytes_eq s t ≡ b → cond b (Some x) (target_of now t) ≡ Some n → (target_of T t ≡ Some n) ⊎ Contains all (t, n)
        among t n true q e =
            let node : x ≡ n = cc in
            inr (h.inside (t, n) (subst (λ p. Contains (rest ++ (s, x) ∷ []) p) (λ i. ((bytes_eq-Decides s t).0 q i, node i)) (Contains-push rest (s, x))))
        among t n false q e = h.among t n e

        old : (t : Text) (b : Bool) → bytes_eq s t ≡ b → cond b (Some x) (target_of now t) ≡ None → (target_of now t ≡ None) × (bytes_eq s t ≡ false)
        old t true q e = absurd (let w : Some x ≡ None = e in cc)
        old t false q e = (e, q)

        apart_from_itself : (t : Text) → t ≡ s → bytes_eq s t ≡ false → true ≡ false
        apart_from_itself t e f = sym (nat_list_eq_equiv.refl s) ∙ ap (bytes_eq s) (sym e) ∙ f
