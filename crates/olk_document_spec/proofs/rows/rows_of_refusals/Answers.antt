use Rattle.olk_document_spec.proofs.rows.rows_of_refusals.Goals as goal
use Rattle.olk_document_spec.proofs.Rows_refusals.{rows_refusals}

pub returns : goal.returns
returns c = rows_refusals
