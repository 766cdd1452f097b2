use Rattle.std.proofs.Common.{rules}
use Rattle.olk_base.proofs.lists.append.Goals as goal

pub returns : goal.returns
returns g c = search rules
