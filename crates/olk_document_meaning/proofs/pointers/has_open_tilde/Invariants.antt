use Rattle.std.proofs.Common.{◌≡◌, length}
use Rattle.olk_document_spec.specs.Documents.{has_open_tilde}
use Rattle.olk_document_meaning.proofs.pointers.has_open_tilde.Given as goal

abbrev pub invariant-loop-rest : goal.invariant-loop-rest
invariant-loop-rest l = has_open_tilde l.rest ≡ has_open_tilde l.fn.pointer

abbrev pub decreases-loop-rest : goal.decreases-loop-rest
decreases-loop-rest l = length l.rest
