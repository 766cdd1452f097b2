use Rattle.olk_spec.proofs.rows.vectors_of_patterns.Goals as goal
use Rattle.olk_spec.proofs.Vectors_patterns.{vectors_patterns}

pub returns : goal.returns
returns c = vectors_patterns
