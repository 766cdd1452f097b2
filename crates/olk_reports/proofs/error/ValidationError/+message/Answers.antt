use Rattle.std.proofs.Common.{rules}
use Rattle.olk_reports.proofs.Errors.{kinds, parts_of_fault}
use Rattle.olk_reports.proofs.error.ValidationError.+message.Goals as goal

pub returns-in_ok-message-in-PropertyNames : goal.returns-in_ok-message-in-PropertyNames
returns-in_ok-message-in-PropertyNames t c = search (rules, kinds, parts_of_fault c.args.self.now)
