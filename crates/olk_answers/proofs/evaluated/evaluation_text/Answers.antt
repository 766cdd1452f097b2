use Rattle.std.proofs.Common.{map}
use Rattle.olk_reports.specs.Entries.{error_of, annotation_of}
use Rattle.olk_answers.proofs.ToldLemmas.{evaluation_is_plain}
use Rattle.olk_answers.proofs.evaluated.evaluation_text.Goals as goal

pub compact_text-requires : goal.compact_text-requires
compact_text-requires c = rw c.in_ok-value.ensures (evaluation_is_plain c.flag-valid.result.valid (map annotation_of c.deref.result.now) (map error_of c.deref-2.result.now))
