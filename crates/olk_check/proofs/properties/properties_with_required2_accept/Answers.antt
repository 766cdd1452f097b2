use Rattle.std.proofs.Common.{true, sym, subst, ◌∙◌}
use Rattle.serde_json.specs.View.{members_view}
use Rattle.olk_spec.specs.Names.{is_empty}
use Rattle.olk_spec.specs.Accepts.{missing}
use Rattle.olk_tree.specs.Questions.{always, both}
use Rattle.olk_tree.specs.Maps.{named, two_texts}
use Rattle.olk_tree.specs.Properties.{properties_mean}
use Rattle.olk_tree.proofs.Questions.{both_last}
use Rattle.olk_tree.proofs.Members_met.{means_nothing, object_is}
use Rattle.olk_check.specs.Together.{AsksOne}
use Rattle.olk_check.proofs.Asked.{asks_as, unasked}
use Rattle.olk_check.proofs.Missing.{lacks_nothing}
use Rattle.olk_check.proofs.properties.properties_with_required2_accept.Goals as goal

pub returns-in-None : goal.returns-in-None
returns-in-None g c = asks_as (sym ((λ i. both (always (lacks_nothing (two_texts c.args.keyword.now.first c.args.keyword.now.second) (g.A.Asked.stands_for c.args.asked) c.in-None.ensures i))
    (means_nothing (named c.args.keyword.now.properties) (g.A.Asked.stands_for c.args.asked) c.in-None.ensures g.N.Means.means i)) ∙ both_last (always true))) (unasked c.args.ctx.now true)

pub returns-in-Some : goal.returns-in-Some
returns-in-Some g c =
    subst (λ v. AsksOne c.args.ctx.now c.members_accepted_with_both.new.ctx
    (both (always (is_empty (missing (two_texts c.args.keyword.now.first c.args.keyword.now.second) v))) (properties_mean g.N.Means.means (named c.args.keyword.now.properties) v)) c.members_accepted_with_both.result)
    (object_is (g.A.Asked.stands_for c.args.asked) (members_view c.in-Some.members.now.entries) c.in-Some.ensures)
    c.members_accepted_with_both.ensures
