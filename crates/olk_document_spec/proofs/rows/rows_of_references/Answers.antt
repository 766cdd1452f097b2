use Rattle.olk_document_spec.proofs.rows.rows_of_references.Goals as goal
use Rattle.olk_document_spec.proofs.Rows_references.{rows_references}

pub returns : goal.returns
returns c = rows_references
