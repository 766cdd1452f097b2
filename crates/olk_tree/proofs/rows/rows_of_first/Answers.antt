use Rattle.olk_tree.proofs.rows.rows_of_first.Goals as goal
use Rattle.olk_tree.proofs.First_rows.{first_rows}

pub returns : goal.returns
returns c = first_rows
