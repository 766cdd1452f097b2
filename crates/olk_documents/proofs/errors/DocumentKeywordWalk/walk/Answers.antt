use Rattle.olk_documents.specs.Nodes.{more_of}
use Rattle.olk_documents.proofs.errors.DocumentKeywordWalk.walk.Goals as goal

pub returns-in-Contains : goal.returns-in-Contains
unfolding more_of
returns-in-Contains g c = rw c.in-Contains.is c.walk-in-Contains.ensures
