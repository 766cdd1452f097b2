use Rattle.std.proofs.Common.{true, sym}
use Rattle.olk_tree.proofs.Members_met.{means_nothing}
use Rattle.olk_check.proofs.Asked.{asks_as, unasked}
use Rattle.olk_check.proofs.properties.properties_accept.Goals as goal

pub returns-in-None : goal.returns-in-None
returns-in-None g c =
    asks_as (sym (means_nothing c.args.properties (g.A.Asked.stands_for c.args.asked) c.in-None.ensures g.N.Means.means)) (unasked c.args.ctx.now true)
