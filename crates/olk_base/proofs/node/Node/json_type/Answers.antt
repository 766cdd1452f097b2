use Rattle.std.proofs.Common.{rules}
use Rattle.olk_base.proofs.node.Node.json_type.Goals as goal

pub returns-in-Name : goal.returns-in-Name
returns-in-Name c = search rules
