use Rattle.std.proofs.Common.{refl}
use Rattle.olk_regexes.specs.Syntax.{steps}
use Rattle.olk_regexes.proofs.rule.steps.Goals as goal

pub returns : goal.returns
unfolding steps
returns c = refl
