use Rattle.std.proofs.Common.{rules}
use Rattle.olk_reports.proofs.entry.Evaluation.iter_annotations.Goals as goal

pub returns : goal.returns
returns c = search rules
