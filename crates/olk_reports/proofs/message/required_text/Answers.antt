use Rattle.std.proofs.Common.{rules}
use Rattle.olk_reports.proofs.message.required_text.Goals as goal

pub returns : goal.returns
returns c = search rules
