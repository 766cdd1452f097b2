use Rattle.std.proofs.Common.{sym, ap}
use Rattle.olk_reports.specs.Errors.{fault_instance}
use Rattle.olk_reports.proofs.Errors.{parts_of_fault}
use Rattle.olk_reports.proofs.error.ValidationError.instance.Goals as goal

pub returns-clause-data : goal.returns-clause-data
returns-clause-data c = sym (ap fault_instance (parts_of_fault c.args.self.now))
