use Rattle.std.proofs.Common.{rules}
use Rattle.olk_check.proofs.not.NotCheck.check.Goals as goal

pub returns : goal.returns
returns g c = search rules
