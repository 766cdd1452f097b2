use Rattle.olk_document_build.proofs.Rounds.{same_without_repeats}
use Rattle.olk_document_build.proofs.document.without_repeats.Goals as goal

pub returns : goal.returns
returns c = same_without_repeats _ _ _ c.sort_unstable.ensures.permutation c.dedup.ensures.filtered
