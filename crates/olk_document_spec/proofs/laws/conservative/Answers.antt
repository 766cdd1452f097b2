use Rattle.olk_document_spec.proofs.laws.conservative.Goals as goal
use Rattle.olk_document_spec.proofs.Conservative.{conservative, same_malformations}

pub returns-clause-meaning : goal.returns-clause-meaning
returns-clause-meaning c = conservative

pub returns-clause-malformations : goal.returns-clause-malformations
returns-clause-malformations c = same_malformations
