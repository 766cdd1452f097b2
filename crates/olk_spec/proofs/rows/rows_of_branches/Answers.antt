use Rattle.olk_spec.proofs.rows.rows_of_branches.Goals as goal
use Rattle.olk_spec.proofs.Rows_branches.{rows_branches}

pub returns : goal.returns
returns c = rows_branches
