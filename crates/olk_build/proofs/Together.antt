-- What validators mean together.
use Rattle.std.proofs.Common.{◌≡◌, ◌≤◌, ◌+◌, ℕ, Some, Bool, true, false, ◌&&◌, List, [], ◌∷◌, ◌++◌, IsPermutation, refl, sym, ◌∙◌, ap, subst, arith, subst₂, append-nil}
use Rattle.std.specs.List.{flat_map}
use Rattle.std.proofs.lemmas.List.Sums.{sum_by-append, sum_by-cons}
use Rattle.std.proofs.{Math.Bool.and-true, lemmas.List.map-append, lemmas.List.Folds.list_all-append, lemmas.List.Sorted.sum_by-IsPermutation, lemmas.Grind.flat_map-append}
use Rattle.serde_json.specs.Data.{Data, Members}
use Rattle.olk_spec.specs.Names.{Name, Path, ◌//◌, lookup_name, is_among}
use Rattle.olk_spec.specs.Faults.{◌∼◌, like_empty, like_through}
use Rattle.olk_spec.proofs.Order.{∼_same, ∼_append, ∼_permuted}
use Rattle.olk_base.specs.Kit.{Kit}
use Rattle.olk_tree.specs.{Questions.of_asked, Validators.validator_means, Answers.Answers, declared.node.KeywordOver.KeywordOver}
use Rattle.olk_meaning.specs.Conditions.{is_restricted}
use Rattle.olk_meaning.specs.Plans.{Planned, head, tells_members, claims}
use Rattle.olk_meaning.specs.Members.{member_accepts, member_asks, member_report, StandsAlone, StandsByItself}
use Rattle.olk_build.specs.Standing.{all_malformed, which, ask, find, Covers}
use Rattle.olk_build.specs.Making.{KeywordMeans, KeywordsMean}
use Rattle.olk_meaning.proofs.Listed.{names_of, claims_are_all}
use Rattle.olk_meaning.proofs.{Rows.Rows, Claims.list_all-permuted, Conditions.MeansNothing}
use Rattle.olk_spec.specs.{Schemas.listed, Malformed.has_repeat}
use Rattle.olk_spec.proofs.{Truth.and_from, Each.Each}
use Rattle.olk_tree.proofs.Questions.{every-append}
use Rattle.olk_tree.specs.Steps.{StepsOf}

module _ {K R N : Type 0} {o : Kit K R} (I : StepsOf o) (answers : N → Answers) where
  -- ---- a member by its name

  pub by_its_name : {ms : Members} {ks : List (KeywordOver K R N)} {m : Name × Data} {n : Name} {L P : Path} → m.0 ≡ n → L ≡ P // m.0
      → (L ≡ P // n → KeywordMeans I answers ms ks (n, m.1) P) → KeywordMeans I answers ms ks m P
  by_its_name {ms} {ks} {m} {n} {L} {P} named place means = subst (λ x. KeywordMeans I answers ms ks (x, m.1) P) (sym named) (means (place ∙ ap (λ x. P // x) named))

  -- the keywords mean what the member claims by the plan
  abbrev pub MeanClaim : Members → Planned → List (KeywordOver K R N) → Name × Data → Path → Type 0
  MeanClaim ms p ks m P = KeywordsMean I answers ms ks (claims (head p) (listed ms) m) (m ∷ []) P

  pub claim_by_name : {ms : Members} {p q : Planned} {ks : List (KeywordOver K R N)} {m : Name × Data} {n : Name} {L P : Path} → m.0 ≡ n → p ≡ q → L ≡ P // m.0
      → lookup_name m.0 (listed ms) ≡ Some m.1 → (L ≡ P // n → lookup_name n (listed ms) ≡ Some m.1 → MeanClaim ms q ks (n, m.1) P) → MeanClaim ms p ks m P
  claim_by_name {ms} {p} {q} {ks} {m} {n} {L} {P} named chosen place there means =
      subst₂ (λ x k. MeanClaim ms x ks (k, m.1) P) (sym chosen) (sym named) (means (place ∙ ap (λ k. P // k) named) (ap (λ k. lookup_name k (listed ms)) (sym named) ∙ there))

  -- ---- keywords

  module _ (ms : Members) (P : Path) where
    pub no_keywords_mean : (ks : List (KeywordOver K R N)) → ks ≡ [] → KeywordsMean I answers ms ks [] [] P
    no_keywords_mean ks e = subst (λ x. KeywordsMean I answers ms x [] [] P) (sym e) record {
      covers = record { verdict = λ u v. refl; asks_within = λ u v. omega arith; faults = λ u v Q. like_empty };
      shows = λ clean u v Q. refl;
      formed = refl;
      forms = λ clean. refl;
    }

    -- of a member that means nothing
    pub means_nothing : (m : Name × Data) → MeansNothing I.steps ms m → KeywordsMean I answers ms [] (m ∷ []) (m ∷ []) P
    means_nothing m nothing = record {
      covers = record {
        verdict = λ u v. sym (and-true _ ∙ nothing.verdict u v);
        asks_within = λ u v. omega arith;
        faults = λ u v Q. ∼_same (sym (append-nil _ ∙ nothing.report u v P Q));
      };
      shows = λ clean u v Q. sym (append-nil _ ∙ nothing.child u v P Q);
      formed = refl;
      forms = λ clean. sym (append-nil _ ∙ nothing.stands P);
    }

    -- what one member means alone
    pub means_alone : (ks : List (KeywordOver K R N)) (e : Name × Data) → (is_restricted ms && tells_members e.0) ≡ false
        → (all_malformed I ms P (listed ms) ≡ [] → (u : Bool) → StandsAlone I.steps u ms e (which o ms e)) → (all_malformed I ms P (listed ms) ≡ [] → StandsByItself I.steps ms (which o ms e))
        → KeywordMeans I answers ms ks e P → KeywordsMean I answers ms ks (e ∷ []) (e ∷ []) P
    means_alone ks e untaken alone own k = record {
      covers = record {
        verdict = λ u v. k.holds.verdict u v ∙ sym (and-true (member_accepts I.steps ms e (which o ms e) u v));
        asks_within = λ u v.
            let f : Name × Data → ℕ = λ x. member_asks I.steps ms x (which o ms x) u v in
            let t = sum_by-cons f e [] in
            let q = k.holds.asks_within untaken u v in
            omega (arith, t, q);
        faults = λ u v Q. subst (λ l. find I answers ms ks u v Q ∼ l) (sym (append-nil _)) (k.holds.faults u v Q);
      };
      shows = λ clean u v Q. k.shows u (alone clean u) v Q ∙ sym (append-nil _);
      formed = k.formed;
      forms = λ clean. k.forms (own clean) ∙ sym (append-nil _);
    }

    more_keywords : (ks ls new : List (KeywordOver K R N)) (rows more es fs : Rows) → new ≡ ks ++ ls → KeywordsMean I answers ms ks rows es P
        → KeywordsMean I answers ms ls more fs P → KeywordsMean I answers ms new (rows ++ more) (es ++ fs) P
    more_keywords ks ls new rows more es fs q h k = subst (λ x. KeywordsMean I answers ms x (rows ++ more) (es ++ fs) P) (sym q) record {
      covers = record {
        verdict = λ u v. ap (λ q. q.accepts u) (every-append (λ k. validator_means o (λ n. (answers n).means) k v) ks ls) ∙ (λ i. h.covers.verdict u v i && k.covers.verdict u v i) ∙ sym (list_all-append _ rows more);
        asks_within = λ u v.
            let f : Name × Data → ℕ = λ x. member_asks I.steps ms x (which o ms x) u v in
            let x = ap (λ q. q.asks of_asked u) (every-append (λ k. validator_means o (λ n. (answers n).means) k v) ks ls) in
            let s = sum_by-append f rows more in
            let p = h.covers.asks_within u v in
            let q = k.covers.asks_within u v in
            omega (arith, x, s, p, q);
        faults = λ u v Q. subst₂ (λ x y. x ∼ y) (sym (flat_map-append _ ks ls)) (sym (flat_map-append _ rows more)) (∼_append (h.covers.faults u v Q) (k.covers.faults u v Q));
      };
      shows = λ clean u v Q. map-append _ ks ls ∙ (λ i. h.shows clean u v Q i ++ k.shows clean u v Q i) ∙ sym (flat_map-append _ es fs);
      formed = list_all-append _ ks ls ∙ and_from _ _ h.formed k.formed;
      forms = λ clean. flat_map-append _ ks ls ∙ (λ i. h.forms clean i ++ k.forms clean i) ∙ sym (flat_map-append _ es fs);
    }

    -- the same rows in another order
    covers_permuted : (ks : List (KeywordOver K R N)) (rows others : Rows) → IsPermutation rows others → Covers I answers ms ks rows P → Covers I answers ms ks others P
    covers_permuted ks rows others same h = record {
      verdict = λ u v. h.verdict u v ∙ list_all-permuted (λ m. member_accepts I.steps ms m (which o ms m) u v) rows others same;
      asks_within = λ u v. subst (λ n. ask I answers ms ks v u ≤ n) (sym (sum_by-IsPermutation (λ m. member_asks I.steps ms m (which o ms m) u v) rows others same)) (h.asks_within u v);
      faults = λ u v Q. like_through (h.faults u v Q) (∼_permuted (λ m. member_report I.steps ms m (which o ms m) u v P Q) rows others same);
    }

    pub means_permuted : (ks : List (KeywordOver K R N)) (rows others es : Rows) → IsPermutation rows others → KeywordsMean I answers ms ks rows es P
        → KeywordsMean I answers ms ks others es P
    means_permuted ks rows others es same h = record { covers = covers_permuted ks rows others same h.covers; shows = h.shows; formed = h.formed; forms = h.forms }

    module _ (heads : Name → Name) where
      pub one_more_keyword : (ks ls new : List (KeywordOver K R N)) (es : Rows) (e : Name × Data) → new ≡ ks ++ ls
          → KeywordsMean I answers ms ks (flat_map (claims heads (listed ms)) es) es P → KeywordsMean I answers ms ls (claims heads (listed ms) e) (e ∷ []) P
          → KeywordsMean I answers ms new (flat_map (claims heads (listed ms)) (es ++ e ∷ [])) (es ++ e ∷ []) P
      one_more_keyword ks ls new es e q h k = subst (λ rows. KeywordsMean I answers ms new rows (es ++ e ∷ []) P)
          (sym (flat_map-append (claims heads (listed ms)) es (e ∷ []) ∙ ap (λ l. flat_map (claims heads (listed ms)) es ++ l) (append-nil (claims heads (listed ms) e))))
          (more_keywords ks ls new (flat_map (claims heads (listed ms)) es) (claims heads (listed ms) e) es (e ∷ []) q h k)

      -- where the head of each member is there, what the members claim is the object's meaning: its verdict, its report up to order, its tree in the order of names, and its asks at most
      pub heads_mean_all : (ks : List (KeywordOver K R N)) → has_repeat (names_of (listed ms)) ≡ false → Each (λ x. is_among (heads x.0) (names_of (listed ms)) ≡ true) (listed ms)
          → KeywordsMean I answers ms ks (flat_map (claims heads (listed ms)) (listed ms)) (listed ms) P → KeywordsMean I answers ms ks (listed ms) (listed ms) P
      heads_mean_all ks distinct there h = means_permuted ks (flat_map (claims heads (listed ms)) (listed ms)) (listed ms) (listed ms) (claims_are_all heads (listed ms) distinct there) h
