-- A node stands for a schema object of a document where what it holds means what the object's members do.
use Rattle.std.proofs.Common.{◌≡◌, ℕ, Bool, true, false, ◌&&◌, List, [], ◌∷◌, ◌++◌, refl, sym, ◌∙◌, ap, subst₂, arith, true≢false}
use Rattle.std.proofs.lemmas.List.Sums.{sum_by-append}
use Rattle.std.proofs.{lemmas.List.map-append, lemmas.List.Folds.list_all-append, lemmas.Grind.flat_map-append}
use Rattle.serde_json.specs.Data.{Data, object, Members}
use Rattle.olk_spec.specs.Names.{Name, Path}
use Rattle.olk_spec.specs.Faults.{◌∼◌, like_empty, like_through}
use Rattle.olk_spec.specs.Schemas.{listed}
use Rattle.olk_spec.proofs.Order.{∼_append, ∼_same}
use Rattle.olk_spec.proofs.Truth.{and_from}
use Rattle.olk_base.specs.Kit.{Kit}
use Rattle.olk_tree.specs.Answers.{Answers}
use Rattle.olk_tree.specs.Questions.{of_asked}
use Rattle.olk_tree.specs.Steps.{StandsBy}
use Rattle.olk_tree.proofs.Questions.{every-append}
use Rattle.olk_document_spec.specs.Keywords.{Document_keyword, document_keyword, bound, other}
use Rattle.olk_document_spec.specs.Steps.{with_children}
use Rattle.olk_document_meaning.specs.Places.{Referred}
use Rattle.olk_document_meaning.specs.Rows.{row_asks}
use Rattle.olk_document_meaning.proofs.Objects.{object_accepts, object_asks, object_report, object_tree, object_stands}
use Rattle.olk_document_build.specs.Kits.{document_of}
use Rattle.olk_document_build.specs.Own.{OwnMean, LayerMeans, AnswersBeside}

module _ {K R N : Type 0} (o : Kit K R) (F : Referred) (ms : Members) (answers : N → Answers) {n : N} {a : Answers} {bs : List Answers} {P : Path} where
  pub document_stands : AnswersBeside (answers n) a bs → LayerMeans o F ms a P → OwnMean o F ms bs (listed ms) P → StandsBy (document_of o F) answers n (object ms) P
  document_stands is l w = record {
    verdict = λ u v. ap (λ q. q.accepts u) (is.verdict v) ∙ (λ i. l.verdict u v i && w.verdict u v i) ∙ sym (object_accepts o.world F ms u v);
    asks_within = λ u v.
        let q = ap (λ q. q.asks of_asked u) (is.verdict v) in
        let r = l.asks_within u v in
        let s = w.asks_within u v in
        let t = object_asks o.world F ms u v in
        omega (arith, q, r, s, t);
    faults = λ u v Q. like_through (∼_same (is.faults u v Q)) (like_through (∼_append (l.faults u v Q) (w.faults u v Q)) (∼_same (sym (object_report o.world F ms u v P Q))));
    evaluation = λ u v Q. is.evaluation u v Q ∙ (λ i. with_children (l.evaluation u v Q i) (w.evaluation u v Q i)) ∙ sym (object_tree o.world F ms u v P Q);
    place = is.place ∙ l.place;
    formed = is.formed ∙ and_from _ _ l.formed w.formed;
    forms = is.forms ∙ (λ i. l.forms i ++ w.forms i) ∙ sym (object_stands o.world F ms P);
  }

-- ---- keyword by keyword

module _ {K R : Type 0} (o : Kit K R) (F : Referred) (ms : Members) (P : Path) where
  pub none_mean : OwnMean o F ms [] [] P
  none_mean = record {
    verdict = λ u v. refl;
    asks_within = λ u v. omega arith;
    faults = λ u v Q. like_empty;
    evaluation = λ u v Q. refl;
    formed = refl;
    forms = refl;
  }

  pub both_mean : (bs cs : List Answers) (rows more : List (Name × Data)) → OwnMean o F ms bs rows P → OwnMean o F ms cs more P → OwnMean o F ms (bs ++ cs) (rows ++ more) P
  both_mean bs cs rows more h k = record {
    verdict = λ u v. ap (λ q. q.accepts u) (every-append (λ b. b.means v) bs cs) ∙ (λ i. h.verdict u v i && k.verdict u v i) ∙ sym (list_all-append _ rows more);
    asks_within = λ u v.
        let f : Name × Data → ℕ = λ m. row_asks o.world F ms m u v in
        let x = ap (λ q. q.asks of_asked u) (every-append (λ b. b.means v) bs cs) in
        let s = sum_by-append f rows more in
        let p = h.asks_within u v in
        let q = k.asks_within u v in
        omega (arith, x, s, p, q);
    faults = λ u v Q. subst₂ (λ x y. x ∼ y) (sym (flat_map-append _ bs cs)) (sym (flat_map-append _ rows more)) (∼_append (h.faults u v Q) (k.faults u v Q));
    evaluation = λ u v Q. map-append _ bs cs ∙ (λ i. h.evaluation u v Q i ++ k.evaluation u v Q i) ∙ sym (flat_map-append _ rows more);
    formed = list_all-append _ bs cs ∙ and_from _ _ h.formed k.formed;
    forms = flat_map-append _ bs cs ∙ (λ i. h.forms i ++ k.forms i) ∙ sym (flat_map-append _ rows more);
  }

-- ---- a member that a document asks nothing of: one of the layer, or a bound

abbrev pub is_silent : Document_keyword → Bool
is_silent bound = true
is_silent other = true
is_silent w = false

module _ {K R : Type 0} (o : Kit K R) (F : Referred) (ms : Members) (P : Path) (m : Name × Data) where
  silent_accepts : (w : Document_keyword) → is_silent w ≡ true → document_keyword m.0 ≡ w → OwnMean o F ms [] (m ∷ []) P
  silent_accepts bound e q = record {
    verdict = λ u v. rw q refl;
    asks_within = λ u v. omega arith;
    faults = λ u v Q. rw q like_empty;
    evaluation = λ u v Q. rw q refl;
    formed = refl;
    forms = rw q refl;
  }
  silent_accepts other e q = record {
    verdict = λ u v. rw q refl;
    asks_within = λ u v. omega arith;
    faults = λ u v Q. rw q like_empty;
    evaluation = λ u v Q. rw q refl;
    formed = refl;
    forms = rw q refl;
  }
  silent_accepts w e q = absurd (true≢false (sym e))

  pub silent_means : is_silent (document_keyword m.0) ≡ true → OwnMean o F ms [] (m ∷ []) P
  silent_means e = silent_accepts (document_keyword m.0) e refl
