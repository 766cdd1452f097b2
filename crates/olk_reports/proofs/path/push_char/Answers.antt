use Rattle.std.proofs.Common.{rules}
use Rattle.olk_reports.proofs.path.push_char.Goals as goal

pub returns-in-47 : goal.returns-in-47
returns-in-47 c = search rules
