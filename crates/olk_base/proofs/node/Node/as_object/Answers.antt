use Rattle.std.proofs.Common.{rules}
use Rattle.olk_base.proofs.node.Node.as_object.Goals as goal

pub returns-in-Value : goal.returns-in-Value
returns-in-Value c = search rules
