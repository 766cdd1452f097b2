use Rattle.olk_regexes.proofs.Beginning.{met-to, met-from}
use Rattle.olk_regexes.proofs.pattern.law_of_look_ahead.Goals as goal

pub returns-clause-found : goal.returns-clause-found
returns-clause-found c = λ p q w hp hq hw h. met-to p q w hp hq hw h

pub returns-clause-only : goal.returns-clause-only
returns-clause-only c = λ p q w hp hq hw b n. met-from p q w hp hq hw b n
