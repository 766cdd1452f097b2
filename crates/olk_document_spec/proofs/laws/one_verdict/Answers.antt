use Rattle.olk_document_spec.proofs.laws.one_verdict.Goals as goal
use Rattle.olk_document_spec.proofs.Verdicts.{verdict_of_reports}

pub returns : goal.returns
returns c = verdict_of_reports
