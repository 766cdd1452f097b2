-- A validator stands for a document.
use Rattle.std.specs.Prelude.{◌≡◌, ℕ, Bool, false, List, [], Contains}
use Rattle.serde_json.specs.Data.{Data}
use Rattle.olk_spec.specs.Faults.{Fault, ◌∼◌}
use Rattle.olk_spec.specs.Meanings.{Meaning}
use Rattle.olk_spec.specs.Reports.{cut}
use Rattle.olk_base.specs.Kit.{Kit}
use Rattle.olk_tree.specs.Questions.{of_unfinished}
use Rattle.olk_documents.specs.Nodes.{answers}
use Rattle.olk_document_build.specs.Documents.{IsDocument}
use Rattle.olk_document.specs.declared.validator.DocumentValidator.{DocumentValidator}

module _ {K R : Type 0} (o : Kit K R) where
  -- its root answers what the document means, with its references followed
  pub record IsDocumentValidatorOf (v : DocumentValidator K R) (D : Data) : Type 0 where
    pub root : IsDocument o D v.root

  -- the faults of the first step of its walk over a value that refuses
  abbrev pub first_faults : DocumentValidator K R → Bool → Data → List Fault
  first_faults v u x = (answers o v.root).first u x []

  -- how many of the matches that it may ask about a value its matchers leave unfinished
  abbrev pub left_unfinished : DocumentValidator K R → Bool → Data → ℕ
  left_unfinished v u x = ((answers o v.root).means x).asks of_unfinished u

-- a schema of this meaning refuses the value, by f, which is what is kept of a fault of some report over the value
pub record IsRefusalBy (M : Meaning) (v : Data) (f : Fault) : Type 0 where
  pub verdict : M.accepts v ≡ false
  pub whole : Fault
  pub list : List Fault
  pub report : list ∼ M.report v [] []
  pub among : Contains list whole
  pub told : f ≡ cut whole
