use Rattle.olk_spec.proofs.Grammar.{literal_is_grammar}
use Rattle.olk_spec.proofs.literals.law_of_literal_patterns.Goals as goal

pub returns : goal.returns
returns c = literal_is_grammar
