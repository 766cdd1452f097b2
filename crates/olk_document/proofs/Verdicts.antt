-- A node that stands for a document answers for the document.
use Rattle.std.proofs.Common.{◌≤◌, Bool, true, false, sym, ◌∙◌, arith}
use Rattle.serde_json.specs.Data.{Data}
use Rattle.olk_base.specs.Count.{raised}
use Rattle.olk_base.specs.Kit.{Kit}
use Rattle.olk_base.specs.Lawful.{Asking}
use Rattle.olk_tree.specs.Questions.{of_asked}
use Rattle.olk_check.specs.Asks.{Asks, IsCertain}
use Rattle.olk_document_spec.specs.Documents.{document_meaning}
use Rattle.olk_documents.specs.Nodes.{answers}
use Rattle.olk_documents.specs.declared.node.DocumentNode.{DocumentNode}
use Rattle.olk_document_build.specs.Documents.{IsDocument}

module _ {K R : Type 0} {o : Kit K R} {D : Data} {n : DocumentNode K R} (stands : IsDocument o D n) where
  pub certain_of_document : (v : Data) {a b : Asking} → IsCertain a b ((answers o n).means v).accepts → IsCertain a b (λ u. (document_meaning o.world u D).accepts v)
  certain_of_document v h = record { same = λ e l. sym (stands.verdict true v) ∙ h.same e l ∙ stands.verdict false v }

  module _ (v : Data) {a b : Asking} {r : Bool} (h : Asks a b ((answers o n).means v) r) where
    pub asked_of_document : b.meter.asked ≤ raised a.meter.asked ((document_meaning o.world a.answer D).asks v)
    asked_of_document = let within = stands.asks_within a.answer v in let x = h.asked_to in omega arith

    pub unfinished_of_document : b.meter.unfinished ≤ raised a.meter.unfinished ((document_meaning o.world a.answer D).asks v)
    unfinished_of_document = let within = stands.asks_within a.answer v in let x = h.unfinished_to of_asked in omega arith
