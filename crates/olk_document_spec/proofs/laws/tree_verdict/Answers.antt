use Rattle.olk_document_spec.proofs.laws.tree_verdict.Goals as goal
use Rattle.olk_document_spec.proofs.Tree_verdicts.{verdict_of_trees}

pub returns : goal.returns
returns c = verdict_of_trees
