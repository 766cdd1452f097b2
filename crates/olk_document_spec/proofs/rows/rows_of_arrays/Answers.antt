use Rattle.olk_document_spec.proofs.rows.rows_of_arrays.Goals as goal
use Rattle.olk_document_spec.proofs.Rows_arrays.{rows_arrays}

pub returns : goal.returns
returns c = rows_arrays
