use Rattle.std.proofs.Common.{true, sym, ap, rules}
use Rattle.serde_json.specs.Data.{string}
use Rattle.olk_tree.specs.Questions.{every}
use Rattle.olk_tree.proofs.Members_met.{no_members}
use Rattle.olk_check.proofs.Asked.{asks_as, unasked}
use Rattle.olk_check.proofs.property_names.PropertyNamesCheck.check.Goals as goal

pub returns-in-None : goal.returns-in-None
returns-in-None g c =
    asks_as (sym (ap (every (λ m. g.N.Means.means c.args.self.now.node (string m.0)))
    (no_members (g.A.Asked.stands_for c.args.asked) c.in-None.ensures))) (unasked c.args.ctx.now true)

pub returns-in-Some : goal.returns-in-Some
returns-in-Some g c = search rules
