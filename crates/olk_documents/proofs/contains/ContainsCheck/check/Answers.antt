use Rattle.std.proofs.Common.{true, ap, ◌∙◌}
use Rattle.serde_json.specs.Find.{as_array}
use Rattle.olk_check.proofs.Asked.{asks_as, unasked}
use Rattle.olk_documents.proofs.Counted.{of_array, of_another}
use Rattle.olk_documents.proofs.contains.ContainsCheck.check.Goals as goal

pub returns-in-Some : goal.returns-in-Some
returns-in-Some g c = asks_as (of_array g.N.Means.means c.args.self.now (g.A.Asked.stands_for c.args.asked) c.in-Some.items.now.items (c.in-Some.ensures ∙ ap as_array c.node.ensures)) c.so_many_accepted.ensures

pub returns-in-None : goal.returns-in-None
returns-in-None g c = asks_as (of_another g.N.Means.means c.args.self.now (g.A.Asked.stands_for c.args.asked) (c.in-None.ensures ∙ ap as_array c.node.ensures)) (unasked c.args.ctx.now true)
