use Rattle.std.proofs.Common.{rules}
use Rattle.olk_check.proofs.any_of.SingleAnyOfCheck.check.Goals as goal

pub returns : goal.returns
returns g c = search rules
