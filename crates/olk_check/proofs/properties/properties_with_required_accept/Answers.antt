use Rattle.std.proofs.Common.{true, [], ◌∷◌, sym, ◌∙◌}
use Rattle.olk_tree.specs.Questions.{always, both}
use Rattle.olk_tree.proofs.Questions.{both_last}
use Rattle.olk_tree.proofs.Members_met.{means_nothing}
use Rattle.olk_check.proofs.Asked.{asks_as, unasked}
use Rattle.olk_check.proofs.Missing.{lacks_nothing}
use Rattle.olk_check.proofs.properties.properties_with_required_accept.Goals as goal

pub returns-in-None : goal.returns-in-None
returns-in-None g c = asks_as (sym ((λ i. both (means_nothing c.args.properties (g.A.Asked.stands_for c.args.asked) c.in-None.ensures g.N.Means.means i)
    (always (lacks_nothing (c.args.name.now ∷ []) (g.A.Asked.stands_for c.args.asked) c.in-None.ensures i))) ∙ both_last (always true))) (unasked c.args.ctx.now true)
