-- The steps of a document over a kit, by what its references name.
use Rattle.olk_base.specs.Kit.{Kit, kit}
use Rattle.olk_base.specs.declared.traits.Leaf as leaf
use Rattle.olk_base.specs.declared.traits.RegexEngine as engine
use Rattle.olk_tree.specs.Steps.{StepsOf}
use Rattle.olk_document_meaning.specs.Places.{Referred}
use Rattle.olk_document_meaning.proofs.Document_steps.{document_steps}

abbrev pub document_of : {K R : Type 0} → (o : Kit K R) → Referred → StepsOf o
document_of o F = record { steps = document_steps o.world F }

abbrev pub document : {K R : Type 0} → (l : leaf.Ghosts K) → (r : engine.Ghosts R) → Referred → StepsOf (kit l r)
document l r F = document_of (kit l r) F
