use Rattle.olk_regexes.proofs.Computed.{rows_refused}
use Rattle.olk_regexes.proofs.rows.rows_refused.Goals as goal

pub returns : goal.returns
returns c = rows_refused
