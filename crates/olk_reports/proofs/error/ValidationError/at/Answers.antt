use Rattle.olk_reports.proofs.Errors.{fault_of_parts}
use Rattle.olk_reports.proofs.error.ValidationError.at.Goals as goal

pub returns-clause-fault : goal.returns-clause-fault
returns-clause-fault c = fault_of_parts _ _ _ _
