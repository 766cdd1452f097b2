use Rattle.std.proofs.Common.{rules}
use Rattle.olk_check.proofs.one_of.SingleOneOfCheck.check.Goals as goal

pub returns : goal.returns
returns g c = search rules
