use Rattle.std.proofs.Common.{[]}
use Rattle.serde_json.specs.View.{view}
use Rattle.olk_document_build.specs.Documents.{references_behind}
use Rattle.olk_document_build.proofs.Rounds.{texts_from}
use Rattle.olk_document_build.proofs.ReadReferences.{AppendsSoFar}
use Rattle.olk_document_build.specs.References.{as_texts}
use Rattle.olk_document_build.proofs.document.references_behind.Given as goal

abbrev pub invariant-loop-text : goal.invariant-loop-text
invariant-loop-text l = AppendsSoFar l.behind.items (λ W. references_behind W (view l.document) (texts_from l.text-items l.text-index)) [] (λ W. references_behind W (view l.document) (as_texts l.texts.items))
