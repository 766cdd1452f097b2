use Rattle.olk_spec.proofs.rows.rows_of_dependencies.Goals as goal
use Rattle.olk_spec.proofs.Rows_dependencies.{rows_dependencies}

pub returns : goal.returns
returns c = rows_dependencies
