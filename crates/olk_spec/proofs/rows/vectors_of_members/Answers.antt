use Rattle.olk_spec.proofs.rows.vectors_of_members.Goals as goal
use Rattle.olk_spec.proofs.Vectors_members.{vectors_members}

pub returns : goal.returns
returns c = vectors_members
