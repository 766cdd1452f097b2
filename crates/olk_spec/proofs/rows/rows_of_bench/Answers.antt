use Rattle.olk_spec.proofs.rows.rows_of_bench.Goals as goal
use Rattle.olk_spec.proofs.Rows_bench.{rows_bench}

pub returns : goal.returns
returns c = rows_bench
