use Rattle.std.proofs.Common.{sym, subst}
use Rattle.std.specs.Float.{NotNan}
use Rattle.olk_numbers.specs.Numbers.{exact}
use Rattle.olk_vocabulary.proofs.Kept.{number_known}
use Rattle.olk_vocabulary.proofs.ranked.RankedNumber.of.Goals as goal

pub invariant_of-result : goal.invariant_of-result
invariant_of-result c = record { known = subst (λ n. NotNan (exact n)) (sym c.of.ensures) (number_known c.args.number.now) }
