-- All that worked rows compute with.
use Rattle.olk_spec.proofs.Computed.{computed as computed_below}
use Rattle.olk_document_spec.specs.Steps.{meaning_under}
use Rattle.olk_document_spec.specs.Documents.{targets}
use Rattle.olk_document_spec.specs.Malformed.{malformations_under, malformed_targets}

-- on the `unfolding` line of a proof it stands for those on its own
unfoldable pub computed : Unit {0}
unfolding computed_below meaning_under targets malformations_under malformed_targets
computed = tt
