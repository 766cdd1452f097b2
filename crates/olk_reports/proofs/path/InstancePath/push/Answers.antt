use Rattle.std.proofs.Common.{rules}
use Rattle.olk_reports.proofs.path.InstancePath.push.Goals as goal

pub returns-clause-path : goal.returns-clause-path
returns-clause-path c = search rules
