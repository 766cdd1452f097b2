use Rattle.std.proofs.Common.{rules}
use Rattle.olk_base.proofs.context.ValidationContext.is_match.Goals as goal

pub returns-in-Err-clause-answer : goal.returns-in-Err-clause-answer
returns-in-Err-clause-answer g c = search rules
