use Rattle.olk_spec.proofs.rows.rows_of_trees.Goals as goal
use Rattle.olk_spec.proofs.Rows_trees.{rows_trees}

pub returns : goal.returns
returns c = rows_trees
