use Rattle.std.proofs.Common.{rules}
use Rattle.olk_check.proofs.all_of.SingleValueAllOfCheck.check.Goals as goal

pub returns : goal.returns
returns g c = search rules
