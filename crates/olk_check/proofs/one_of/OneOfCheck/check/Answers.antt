use Rattle.std.proofs.Common.{rules}
use Rattle.olk_check.proofs.one_of.OneOfCheck.check.Goals as goal

pub returns-in-Several : goal.returns-in-Several
returns-in-Several g c = search rules
