use Rattle.std.proofs.Common.{rules}
use Rattle.olk_reports.proofs.message.type_name.Goals as goal

pub returns-in-Array : goal.returns-in-Array
returns-in-Array c = search rules
