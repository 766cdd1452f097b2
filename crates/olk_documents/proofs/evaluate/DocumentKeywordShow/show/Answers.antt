use Rattle.olk_documents.specs.Nodes.{more_of}
use Rattle.olk_documents.proofs.evaluate.DocumentKeywordShow.show.Goals as goal

pub returns-in-Contains : goal.returns-in-Contains
unfolding more_of
returns-in-Contains g c = rw c.in-Contains.is c.show-in-Contains.ensures
