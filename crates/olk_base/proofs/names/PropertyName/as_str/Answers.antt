use Rattle.std.proofs.Common.{rules}
use Rattle.olk_base.proofs.names.PropertyName.as_str.Goals as goal

pub returns : goal.returns
returns c = search rules
