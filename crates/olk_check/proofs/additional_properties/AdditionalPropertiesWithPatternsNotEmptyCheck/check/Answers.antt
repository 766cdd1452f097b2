use Rattle.std.proofs.Common.{true, subst}
use Rattle.olk_tree.specs.Additional.{additional_means}
use Rattle.olk_tree.specs.Questions.{always, both}
use Rattle.olk_check.specs.Asks.{Asks}
use Rattle.olk_check.proofs.additional_properties.AdditionalPropertiesWithPatternsNotEmptyCheck.check.Goals as goal

pub returns : goal.returns
returns g c =
    subst (λ S. Asks c.args.ctx.now c.sides_accept.new.ctx (both (additional_means g.R.RegexEngine.answers g.R.RegexEngine.costs g.N.Means.means S (g.A.Asked.stands_for c.args.asked)) (always true)) c.sides_accept.result)
    c.sides.ensures c.sides_accept.ensures
