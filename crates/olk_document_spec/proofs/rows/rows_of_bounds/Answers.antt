use Rattle.olk_document_spec.proofs.rows.rows_of_bounds.Goals as goal
use Rattle.olk_document_spec.proofs.Rows_bounds.{rows_bounds}

pub returns : goal.returns
returns c = rows_bounds
