use Rattle.olk_regexes.proofs.Equal.{finds-to, finds-from}
use Rattle.olk_regexes.proofs.Meeting.{meets-to, meets-from}
use Rattle.olk_regexes.proofs.pattern.law_of_finding.Goals as goal

pub returns-clause-one : goal.returns-clause-one
returns-clause-one c = λ p w. (λ e. finds-to p w e, λ h. finds-from p w h)

pub returns-clause-both : goal.returns-clause-both
returns-clause-both c = λ r w. (λ e. meets-to r w e, λ h. meets-from r w h)
