use Rattle.olk_spec.proofs.rows.vectors_of_names.Goals as goal
use Rattle.olk_spec.proofs.Vectors_names.{vectors_names}

pub returns : goal.returns
returns c = vectors_names
