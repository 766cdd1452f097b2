use Rattle.olk_spec.proofs.rows.rows_of_evaluation.Goals as goal
use Rattle.olk_spec.proofs.Rows_evaluation.{rows_evaluation}

pub returns : goal.returns
returns c = rows_evaluation
