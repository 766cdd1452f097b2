use Rattle.olk_document_spec.proofs.laws.enough_followed.Goals as goal
use Rattle.olk_document_spec.proofs.Following.{followed_more_often}

pub returns : goal.returns
returns c = followed_more_often
