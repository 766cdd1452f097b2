use Rattle.olk_spec.proofs.rows.rows_of_patterns.Goals as goal
use Rattle.olk_spec.proofs.Rows_patterns.{rows_patterns}

pub returns : goal.returns
returns c = rows_patterns
