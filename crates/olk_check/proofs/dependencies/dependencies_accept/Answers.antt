use Rattle.std.proofs.Common.{true, sym, ap, rules}
use Rattle.olk_tree.specs.Questions.{every}
use Rattle.olk_tree.specs.Maps.{named}
use Rattle.olk_tree.proofs.Due.{none_due}
use Rattle.olk_check.proofs.Asked.{asks_as, unasked}
use Rattle.olk_check.proofs.dependencies.dependencies_accept.Goals as goal

pub returns-in-None : goal.returns-in-None
returns-in-None g c =
    asks_as (sym (ap (every (λ n. g.N.Means.means n (g.A.Asked.stands_for c.args.asked)))
    (none_due (g.A.Asked.stands_for c.args.asked) c.in-None.ensures (named c.args.dependencies.now)))) (unasked c.args.ctx.now true)

pub returns-in-Some : goal.returns-in-Some
returns-in-Some g c = search rules
