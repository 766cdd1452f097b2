use Rattle.olk_regexes.proofs.Computed.{rows_read}
use Rattle.olk_regexes.proofs.rows.rows_read.Goals as goal

pub returns : goal.returns
returns c = rows_read
