use Rattle.olk_regexes.proofs.Asserted.{finds_at-to, finds_at-from}
use Rattle.olk_regexes.proofs.pattern.law_of_edges.Goals as goal

pub returns-clause-found : goal.returns-clause-found
returns-clause-found c = λ p w h hw f. finds_at-to p w h hw f

pub returns-clause-only : goal.returns-clause-only
returns-clause-only c = λ p w h f. finds_at-from p w h f
