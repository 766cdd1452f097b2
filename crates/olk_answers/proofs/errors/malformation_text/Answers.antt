use Rattle.std.proofs.Common.{rules}
use Rattle.olk_answers.proofs.errors.malformation_text.Goals as goal

pub returns : goal.returns
returns c = search rules
