-- What a document means for an instance, and what is told of that.
use Rattle.std.specs.Prelude.{◌≡◌, Bool, List, []}
use Rattle.serde_json.specs.Data.{Data}
use Rattle.olk_spec.specs.Names.{Text}
use Rattle.olk_spec.specs.World.{World}
use Rattle.olk_spec.specs.Faults.{Fault}
use Rattle.olk_spec.specs.Tree.{Tree, IsLikeTree, is_valid}
use Rattle.olk_spec.specs.Answers.{tree_data}
use Rattle.olk_answers.specs.Texts.{json_text}
use Rattle.olk_document_spec.specs.Documents.{document_meaning}

module _ (W : World) (u : Bool) (D v : Data) where
  -- with its references followed, it accepts the instance
  abbrev pub accepts : Bool
  accepts = (document_meaning W u D).accepts v

  -- the faults that it finds in the instance
  abbrev pub report : List Fault
  report = (document_meaning W u D).report v [] []

  -- the answer tells a tree of what it shows of the instance, which is valid where it accepts
  pub record TellsEvaluation (answer : Text) : Type 0 where
    pub tree : Tree
    pub is_tree : IsLikeTree ((document_meaning W u D).tree v [] []) tree
    pub verdict : is_valid tree ≡ accepts
    pub is : answer ≡ json_text (tree_data tree)
