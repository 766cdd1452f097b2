use Rattle.std.proofs.Common.{true, sym, ap}
use Rattle.olk_tree.specs.Questions.{every}
use Rattle.olk_tree.specs.Maps.{named}
use Rattle.olk_tree.proofs.Due.{none_chosen}
use Rattle.olk_check.proofs.Asked.{asks_as, unasked}
use Rattle.olk_check.proofs.property_dependencies.PropertyDependenciesCheck.check.Goals as goal

pub returns-in-None : goal.returns-in-None
returns-in-None g c =
    asks_as (sym (ap (every (λ n. g.N.Means.means n (g.A.Asked.stands_for c.args.asked)))
    (none_chosen (g.A.Asked.stands_for c.args.asked) c.in-None.ensures (named c.args.self.now.dependencies)))) (unasked c.args.ctx.now true)
