use Rattle.olk_regexes.proofs.Built.{built_placed}
use Rattle.olk_regexes.proofs.pattern.law_of_built.Goals as goal

pub returns : goal.returns
returns c = λ w r e. built_placed w r e
