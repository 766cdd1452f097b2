use Rattle.std.proofs.Common.{rules}
use Rattle.olk_reports.proofs.path.InstancePath.pop.Goals as goal

pub truncate-requires : goal.truncate-requires
truncate-requires c = search rules

pub returns : goal.returns
returns c = search rules
