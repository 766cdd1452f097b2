use Rattle.std.proofs.Common.{rules}
use Rattle.olk_reports.proofs.entry.Evaluation.flag.Goals as goal

pub returns : goal.returns
returns c = search rules
