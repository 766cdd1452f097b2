use Rattle.std.proofs.Common.{rules}
use Rattle.olk_base.proofs.analysis.is_ecma_whitespace.Goals as goal

pub returns-in-9-to-13 : goal.returns-in-9-to-13
returns-in-9-to-13 c = search rules
