-- A node whose keywords are built answers what its members mean for the layer and, behind it, what its own keywords do.
use Rattle.std.specs.Prelude.{◌≡◌, ◌∷◌, List, Vec, map}
use Rattle.std.specs.declared.alloc.Global.{Global}
use Rattle.std.proofs.Common.{refl, ap}
use Rattle.serde_json.specs.Data.{Members}
use Rattle.olk_spec.specs.Names.{Path}
use Rattle.olk_spec.specs.Tree.{plain}
use Rattle.olk_base.specs.Count.{Counts}
use Rattle.olk_base.specs.Kit.{Kit}
use Rattle.olk_meaning.specs.Chosen.{object_form}
use Rattle.olk_tree.specs.declared.node.Body.{Body}
use Rattle.olk_tree.specs.declared.node.Body.TheVariants.{Keywords}
use Rattle.olk_tree.specs.declared.node.KeywordOver.{KeywordOver}
use Rattle.olk_build.specs.Building.{ObjectIsBuilt}
use Rattle.olk_documents.specs.Nodes.{answers}
use Rattle.olk_documents.specs.declared.node.DocumentKeyword.{DocumentKeyword}
use Rattle.olk_documents.specs.declared.node.DocumentNode.{DocumentNode, out-DocumentNode}
use Rattle.olk_documents.proofs.Layers.{layer_at, own_answers}
use Rattle.olk_documents.proofs.Nodes.{node_answers}
use Rattle.olk_document_meaning.specs.Layers.{layer_members}
use Rattle.olk_document_meaning.specs.Places.{Referred}
use Rattle.olk_document_build.specs.Kits.{document_of}
use Rattle.olk_document_build.specs.Own.{LayerMeans, AnswersBeside}

module _ {K R : Type 0} (o : Kit K R) where
  pub node_beside : (n : DocumentNode K R) {P : Path} {b : Body (KeywordOver K R (DocumentNode K R))} {ks : List (DocumentKeyword (DocumentNode K R))} → (out-DocumentNode K R n).location ≡ P
      → (out-DocumentNode K R n).body ≡ b → (out-DocumentNode K R n).more.items ≡ ks → AnswersBeside (answers o n) (layer_at o P b) (map (own_answers o) ks)
  node_beside n at is own =
      let h = node_answers o n at is own in
      record {
        verdict = h.verdict;
        faults = h.faults;
        evaluation = h.evaluation;
        place = h.place;
        formed = h.formed;
        forms = h.forms;
      }

  module _ (F : Referred) (ms : Members) where
    pub layer_means : (ks : Vec (KeywordOver K R (DocumentNode K R)) Global) {P : Path} {m z : Counts} → ObjectIsBuilt (document_of o F) (layer_members ms) (answers o) ks.items P m z
        → LayerMeans o F ms (layer_at o P (Keywords ks)) P
    layer_means ks {P = P} h = record {
      verdict = h.mean.covers.verdict;
      asks_within = h.mean.covers.asks_within;
      faults = h.mean.covers.faults;
      evaluation = λ u v Q. ap (plain P Q) (h.mean.shows h.clean u v Q);
      place = refl;
      formed = h.mean.formed;
      forms = ap (λ l. (P, object_form) ∷ l) (h.mean.forms h.clean);
    }
