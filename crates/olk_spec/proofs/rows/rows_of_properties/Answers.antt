use Rattle.olk_spec.proofs.rows.rows_of_properties.Goals as goal
use Rattle.olk_spec.proofs.Rows_properties.{rows_properties}

pub returns : goal.returns
returns c = rows_properties
