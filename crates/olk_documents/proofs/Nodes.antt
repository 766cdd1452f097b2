-- A node answers what the layer reads there and, behind it, what its own keywords do.
use Rattle.std.specs.Prelude.{◌≡◌, ◌++◌, ◌&&◌, [], List, map}
use Rattle.std.proofs.Common.{refl, sym, ap, ◌∙◌, append-nil}
use Rattle.std.proofs.Math.Bool.{and-true}
use Rattle.olk_spec.specs.Names.{Path}
use Rattle.olk_spec.proofs.Maps.{flat_map-map, map-map}
use Rattle.olk_base.specs.Kit.{Kit}
use Rattle.olk_tree.specs.Answers.{Answers}
use Rattle.olk_tree.specs.Firsts.{or_else}
use Rattle.olk_tree.specs.Places.{AnswersBy}
use Rattle.olk_tree.specs.declared.node.Body.{Body}
use Rattle.olk_tree.specs.declared.node.KeywordOver.{KeywordOver}
use Rattle.olk_tree.specs.Questions.{both}
use Rattle.olk_tree.proofs.Layers.{AnswersAlike}
use Rattle.olk_tree.proofs.Maps.{all-map, every-map, first_of-map}
use Rattle.olk_tree.proofs.Questions.{both_last}
use Rattle.olk_errors.proofs.Loops.{or_else_nothing}
use Rattle.olk_document_spec.specs.Steps.{with_children}
use Rattle.olk_documents.specs.Nodes.{answers, beside}
use Rattle.olk_documents.specs.declared.node.DocumentKeyword.{DocumentKeyword}
use Rattle.olk_documents.specs.declared.node.DocumentNode.{DocumentNode, out-DocumentNode}
use Rattle.olk_documents.proofs.Layers.{layer_at, own_answers, node_means, node_finds, node_first, node_shows, node_location, node_formed, node_forms}

-- behind it stands nothing
nothing_beside : (a : Answers) → AnswersAlike (beside a []) a
nothing_beside a = record {
  verdict = λ v. both_last (a.means v);
  faults = λ u v Q. append-nil (a.report u v Q);
  first = λ u v Q. or_else_nothing (a.first u v Q);
  evaluation = λ u v Q. refl;
  place = refl;
  formed = and-true a.formed;
  forms = append-nil a.forms;
}

module _ {K R : Type 0} (o : Kit K R) (n : DocumentNode K R) where
  abbrev inside_answers : Path → Body (KeywordOver K R (DocumentNode K R)) → List (DocumentKeyword (DocumentNode K R)) → Answers
  inside_answers P b ms = beside (layer_at o P b) (map (own_answers o) ms)

  abbrev place : Path
  place = (out-DocumentNode K R n).location

  abbrev body : Body (KeywordOver K R (DocumentNode K R))
  body = (out-DocumentNode K R n).body

  abbrev more : List (DocumentKeyword (DocumentNode K R))
  more = (out-DocumentNode K R n).more.items

  answers_inside : AnswersAlike (answers o n) (inside_answers place body more)
  answers_inside = record {
    verdict = λ v. node_means o n v ∙ ap (both ((layer_at o place body).means v)) (sym (every-map (λ b. b.means v) (λ k. (own_answers o k).means v) (own_answers o) (λ k. refl) more));
    faults = λ u v Q. node_finds o n u v Q ∙ ap (λ l. (layer_at o place body).report u v Q ++ l) (sym (flat_map-map (λ b. b.report u v Q) (λ k. (own_answers o k).report u v Q) (own_answers o) (λ k. refl) more));
    first = λ u v Q. node_first o n u v Q ∙ ap (or_else ((layer_at o place body).first u v Q)) (sym (first_of-map (λ b. b.first u v Q) (λ k. (own_answers o k).first u v Q) (own_answers o) (λ k. refl) more));
    evaluation = λ u v Q. node_shows o n u v Q ∙ ap (with_children ((layer_at o place body).tree u v Q)) (sym (map-map (λ b. b.tree u v Q) (λ k. (own_answers o k).tree u v Q) (own_answers o) (λ k. refl) more));
    place = node_location o n;
    formed = node_formed o n ∙ ap (λ t. (layer_at o place body).formed && t) (sym (all-map (λ b. b.formed) (λ k. (own_answers o k).formed) (own_answers o) (λ k. refl) more));
    forms = node_forms o n ∙ ap (λ l. (layer_at o place body).forms ++ l) (sym (flat_map-map (λ b. b.forms) (λ k. (own_answers o k).forms) (own_answers o) (λ k. refl) more));
  }

  module _ {P : Path} {b : Body (KeywordOver K R (DocumentNode K R))} (at : place ≡ P) (is : body ≡ b) where
    pub node_answers : {ms : List (DocumentKeyword (DocumentNode K R))} → more ≡ ms → AnswersAlike (answers o n) (inside_answers P b ms)
    node_answers own = rw (← at, ← is, ← own) answers_inside

    -- a node without keywords of its own
    pub layer_answers : more ≡ [] → AnswersBy o (answers o) P b n
    layer_answers none =
        let h = node_answers none in
        let k = nothing_beside (layer_at o P b) in
        record {
          verdict = λ v. h.verdict v ∙ k.verdict v;
          faults = λ u v Q. h.faults u v Q ∙ k.faults u v Q;
          first = λ u v Q. h.first u v Q ∙ k.first u v Q;
          evaluation = λ u v Q. h.evaluation u v Q ∙ k.evaluation u v Q;
          place = h.place ∙ k.place;
          formed = h.formed ∙ k.formed;
          forms = h.forms ∙ k.forms;
        }
