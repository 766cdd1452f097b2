use Rattle.olk_document_spec.proofs.rows.rows_of_contains.Goals as goal
use Rattle.olk_document_spec.proofs.Rows_contains.{rows_contains}

pub returns : goal.returns
returns c = rows_contains
