use Rattle.olk_spec.proofs.rows.rows_of_costs.Goals as goal
use Rattle.olk_spec.proofs.Rows_costs.{rows_costs}

pub returns : goal.returns
returns c = rows_costs
