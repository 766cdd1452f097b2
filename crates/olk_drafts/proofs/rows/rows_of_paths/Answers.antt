use Rattle.olk_drafts.proofs.rows.rows_of_paths.Goals as goal
use Rattle.olk_drafts.proofs.Rows_paths.{rows_paths}

pub returns : goal.returns
returns c = rows_paths
