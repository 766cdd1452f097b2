-- `$ref` means what its member does, where its node is that of the place that the text names.
use Rattle.std.proofs.Common.{◌≡◌, ℕ, Bool, true, ◌&&◌, List, [], ◌∷◌, ◌++◌, map, codes, sum_by, refl, sym, ◌∙◌, ap, arith, append-nil}
use Rattle.std.specs.List.{flat_map, list_all}
use Rattle.std.proofs.Math.Bool.{and-true}
use Rattle.std.proofs.lemmas.List.Sums.{sum_by-cons}
use Rattle.serde_json.specs.Data.{Data, string, Members}
use Rattle.olk_spec.specs.Names.{Text, Name, Path, ◌//◌}
use Rattle.olk_spec.specs.Faults.{Fault, ◌∼◌, like_empty, like_through}
use Rattle.olk_spec.specs.Tree.{Tree, plain}
use Rattle.olk_spec.proofs.Order.{∼_append, ∼_same}
use Rattle.olk_spec.proofs.Truth.{and_from}
use Rattle.olk_base.specs.Kit.{Kit}
use Rattle.olk_tree.specs.Answers.{answered}
use Rattle.olk_tree.specs.Questions.{of_asked}
use Rattle.olk_document_spec.specs.Keywords.{Target}
use Rattle.olk_documents.specs.Nodes.{answers}
use Rattle.olk_documents.specs.References.{reference_answers}
use Rattle.olk_documents.specs.declared.node.DocumentNode.{DocumentNode}
use Rattle.olk_documents.specs.declared.reference.Reference.{Reference}
use Rattle.olk_document_meaning.specs.Places.{Referred}
use Rattle.olk_document_meaning.specs.Rows.{row_accepts, row_asks, row_report, row_child}
use Rattle.olk_document_build.specs.Own.{OwnMean}
use Rattle.olk_document_build.specs.Targets.{IsTarget}

module _ {K R : Type 0} {o : Kit K R} {F : Referred} {n : DocumentNode K R} {t : Text} (is : IsTarget o F n t) (ms : Members) (P : Path) where
  abbrev reference : Name × Data
  reference = (codes "$ref", string t)

  module _ (u : Bool) (v : Data) where
    abbrev accepted_by : List Target → Bool
    accepted_by ts = list_all (λ r. r.meaning.accepts v) (ts ++ []) && true

    reference_accepts : ((answers o n).means v).accepts u ≡ row_accepts o.world F ms reference u v
    reference_accepts = is.verdict u v ∙ sym (and-true _ ∙ and-true _) ∙ ap accepted_by (sym (is.named u))

    abbrev asked_by : List Target → ℕ
    asked_by ts = sum_by (λ r. r.meaning.asks v) (ts ++ [])

    reference_asks : row_asks o.world F ms reference u v ≡ (is.target u).meaning.asks v
    reference_asks =
        let a : asked_by (F.means u t) ≡ asked_by (is.target u ∷ []) = ap asked_by (is.named u) in
        let b = sum_by-cons (λ (r : Target). r.meaning.asks v) (is.target u) [] in
        omega (arith, a, b)

    module _ (Q : Path) where
      abbrev found_by : List Target → List Fault
      found_by ts = flat_map (λ r. r.meaning.report v r.place Q) (ts ++ []) ++ []

      reference_report : (answers o n).report u v Q ∼ row_report o.world F ms reference u v P Q
      reference_report = like_through (is.faults u v Q) (∼_same (sym (append-nil _ ∙ append-nil _) ∙ ap found_by (sym (is.named u))))

      abbrev shown_by : List Target → List Tree
      shown_by ts = plain (P // codes "$ref") Q (map (λ r. r.meaning.tree v r.place Q) (ts ++ [])) ∷ []

      reference_child : plain (P // codes "$ref") Q ((answers o n).tree u v Q ∷ []) ∷ [] ≡ row_child o.world F ms reference u v P Q
      reference_child = ap (λ w. plain (P // codes "$ref") Q (w ∷ []) ∷ []) (is.evaluation u v Q) ∙ ap shown_by (sym (is.named u))

  reference_row_means : (k : Reference (DocumentNode K R)) → k.target.value ≡ n → k.location ≡ P // codes "$ref" → OwnMean o F ms (answered (answers o) (reference_answers k) ∷ []) (reference ∷ []) P
  reference_row_means k named place = record {
    verdict = λ u v. λ i. (ap (λ m. ((answers o m).means v).accepts u) named ∙ reference_accepts u v) i && true;
    asks_within = λ u v.
        let f : Name × Data → ℕ = λ m. row_asks o.world F ms m u v in
        let a = ap (λ m. ((answers o m).means v).asks of_asked u) named in
        let b = is.asks_within u v in
        let c = reference_asks u v in
        let e = sum_by-cons f reference [] in
        omega (arith, a, b, c, e);
    faults = λ u v Q. ∼_append (like_through (∼_same (ap (λ m. (answers o m).report u v Q) named)) (reference_report u v Q)) like_empty;
    evaluation = λ u v Q. (λ i. plain (place i) Q ((answers o (named i)).tree u v Q ∷ []) ∷ []) ∙ reference_child u v Q ∙ sym (append-nil _);
    formed = and_from _ _ (ap (λ m. (answers o m).formed) named ∙ is.formed) refl;
    forms = ap (λ l. l ++ []) (ap (λ m. (answers o m).forms) named ∙ is.forms ∙ sym (append-nil _));
  }

  pub reference_means : {d : Data} (k : Reference (DocumentNode K R)) → d ≡ string t → k.target.value ≡ n → k.location ≡ P // codes "$ref"
      → OwnMean o F ms (answered (answers o) (reference_answers k) ∷ []) ((codes "$ref", d) ∷ []) P
  reference_means k text named place = rw text (reference_row_means k named place)
