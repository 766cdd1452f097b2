use Rattle.std.proofs.Common.{rules}
use Rattle.olk_base.proofs.context.ValidationContext.new.Goals as goal

pub returns : goal.returns
returns c = search rules
