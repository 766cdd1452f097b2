use Rattle.olk_drafts.proofs.rows.rows_of_drafts.Goals as goal
use Rattle.olk_drafts.proofs.Rows_drafts.{rows_drafts}

pub returns : goal.returns
returns c = rows_drafts
