-- Laws of the meaning of documents.
use Rattle.std.specs.Prelude.{◌≡◌, ℕ, ◌+◌, Bool, true, false}
use Rattle.serde_json.specs.Data.{Data}
use Rattle.olk_spec.specs.Names.{Path, is_empty}
use Rattle.olk_spec.specs.World.{World}
use Rattle.olk_spec.specs.Distinct.{DistinctNames}
use Rattle.olk_spec.specs.Tree.{is_valid}
use Rattle.olk_spec.specs.Meaning.{meaning}
use Rattle.olk_spec.specs.Malformed.{malformations}
use Rattle.olk_document_spec.specs.Documents.{document_meaning, reference_limit, targets}
use Rattle.olk_document_spec.specs.Following.{runs_on}
use Rattle.olk_document_spec.specs.Steps.{meaning_under}
use Rattle.olk_document_spec.specs.Malformed.{document_malformations}
use Rattle.olk_document_spec.specs.Plain.{is_plain}

-- a schema in which no keyword of a document occurs means what it means for the layer: its verdict, report, tree and asks
abbrev pub Conservative : Type 0
Conservative = (W : World) (u : Bool) (D : Data) → is_plain D ≡ true → document_meaning W u D ≡ meaning W u D

-- and the same is malformed in it
abbrev pub Same_malformations : Type 0
Same_malformations = (W : World) (D : Data) → is_plain D ≡ true → document_malformations W D ≡ malformations W D

-- a document accepts exactly where it finds no fault
abbrev pub Verdict_of_reports : Type 0
Verdict_of_reports = (W : World) (u : Bool) (D v : Data) (P Q : Path) → (document_meaning W u D).accepts v ≡ is_empty ((document_meaning W u D).report v P Q)

-- the tree of a document is valid exactly where the document accepts
abbrev pub Verdict_of_trees : Type 0
Verdict_of_trees = (W : World) (u : Bool) (D v : Data) (P Q : Path) → DistinctNames D → DistinctNames v → is_valid ((document_meaning W u D).tree v P Q) ≡ (document_meaning W u D).accepts v

-- where references don't lead on and on, following them more often means the same
abbrev pub Followed_more_often : Type 0
Followed_more_often = (W : World) (u : Bool) (D : Data) (n : ℕ) → runs_on D ≡ false → meaning_under W u (targets W u D (reference_limit + n)) D ≡ document_meaning W u D
