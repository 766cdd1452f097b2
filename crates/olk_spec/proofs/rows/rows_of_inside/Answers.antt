use Rattle.olk_spec.proofs.rows.rows_of_inside.Goals as goal
use Rattle.olk_spec.proofs.Rows_inside.{rows_inside}

pub returns : goal.returns
returns c = rows_inside
