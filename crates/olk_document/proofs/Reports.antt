-- What a node that stands for a document tells is of the document's reports.
use Rattle.std.proofs.Common.{◌≡◌, Bool, true, List, [], length, sym, ◌∙◌}
use Rattle.std.specs.Prelude.{nat_eq}
use Rattle.serde_json.specs.Data.{Data}
use Rattle.olk_spec.specs.Faults.{Fault, like_through}
use Rattle.olk_reports.specs.declared.error.ValidationError.{ValidationError}
use Rattle.olk_base.specs.Kit.{Kit}
use Rattle.olk_errors.specs.Found.{Appends, Outcome, Passes, IsErrorOf}
use Rattle.olk_errors.proofs.Appending.{appends_like, appended_none}
use Rattle.olk_errors.proofs.Kept.{kept_of_like}
use Rattle.olk_document_spec.specs.Documents.{document_meaning}
use Rattle.olk_documents.specs.Nodes.{answers}
use Rattle.olk_documents.specs.declared.node.DocumentNode.{DocumentNode}
use Rattle.olk_document_build.specs.Documents.{IsDocument}
use Rattle.olk_document.specs.Validators.{IsRefusalBy}

module _ {K R : Type 0} {o : Kit K R} {D : Data} {n : DocumentNode K R} (stands : IsDocument o D n) (u : Bool) (v : Data) where
  -- what asking it comes to, at the root of the instance
  abbrev pub root_outcome : Outcome
  root_outcome = record { accepts = ((answers o n).means v).accepts u; first = (answers o n).first u v []; all = (answers o n).report u v [] }

  pub accepts_of_document : Passes root_outcome → (document_meaning o.world u D).accepts v ≡ true
  accepts_of_document passes = sym (stands.verdict u v) ∙ passes.verdict

  pub refusal_of_document : (f : Fault) → IsErrorOf root_outcome f → IsRefusalBy (document_meaning o.world u D) v f
  refusal_of_document f told =
      let k = kept_of_like ((answers o n).report u v []) f told.of_all in
      record {
        verdict = sym (stands.verdict u v) ∙ told.verdict;
        whole = k.whole;
        list = k.list;
        report = like_through k.alike (stands.faults u v []);
        among = k.among;
        told = k.told;
      }

  module _ {old new : List ValidationError} (a : Appends old new ((answers o n).report u v [])) where
    pub report_of_document : Appends old new ((document_meaning o.world u D).report v [] [])
    report_of_document = appends_like (stands.faults u v []) a

    pub none_appended : nat_eq (length new) (length old) ≡ (document_meaning o.world u D).accepts v
    none_appended = appended_none a ∙ (answers o n).agrees u v [] ∙ stands.verdict u v
