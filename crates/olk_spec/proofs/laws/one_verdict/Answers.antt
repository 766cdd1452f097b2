use Rattle.olk_spec.proofs.laws.one_verdict.Goals as goal
use Rattle.olk_spec.proofs.Verdicts.{verdict_of_reports}
use Rattle.olk_spec.proofs.Logic.{empty_report, only_report}

pub returns-clause-verdict : goal.returns-clause-verdict
returns-clause-verdict c = verdict_of_reports

pub returns-clause-empty : goal.returns-clause-empty
returns-clause-empty c = empty_report

pub returns-clause-only : goal.returns-clause-only
returns-clause-only c = only_report
