use Rattle.std.proofs.Common.{vec_len}
use Rattle.olk_document_build.specs.Documents.{with_texts}
use Rattle.olk_document_build.proofs.Rounds.{MoreSoFar}
use Rattle.olk_document_build.proofs.targets.Targets.append.Given as goal

-- the targets so far, and the nodes that are left
abbrev pub invariant-loop-text : goal.invariant-loop-text
invariant-loop-text g l = MoreSoFar l.fn.self (with_texts l.fn.nodes.items) (with_texts l.nodes.items) l.self

abbrev pub decreases-loop-text : goal.decreases-loop-text
decreases-loop-text g l = vec_len l.nodes
