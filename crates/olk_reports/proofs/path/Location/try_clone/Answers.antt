use Rattle.std.proofs.Common.{rules}
use Rattle.olk_reports.proofs.path.Location.try_clone.Goals as goal

pub returns : goal.returns
returns c = search rules
