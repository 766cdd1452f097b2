use Rattle.olk_drafts.proofs.rows.rows_of_names.Goals as goal
use Rattle.olk_drafts.proofs.Rows_names.{rows_names}

pub returns : goal.returns
returns c = rows_names
