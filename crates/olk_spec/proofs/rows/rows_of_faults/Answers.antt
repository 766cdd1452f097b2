use Rattle.olk_spec.proofs.rows.rows_of_faults.Goals as goal
use Rattle.olk_spec.proofs.Rows_faults.{rows_faults}

pub returns : goal.returns
returns c = rows_faults
