use Rattle.std.proofs.Common.{rules}
use Rattle.olk_answers.proofs.errors.first_text.Goals as goal

pub returns-in-Err-Invalid : goal.returns-in-Err-Invalid
returns-in-Err-Invalid c = search rules
