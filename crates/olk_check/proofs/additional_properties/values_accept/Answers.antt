use Rattle.std.proofs.Common.{true, subst}
use Rattle.serde_json.specs.View.{members_view}
use Rattle.olk_tree.specs.Questions.{always, both}
use Rattle.olk_tree.specs.Visited.{object_of}
use Rattle.olk_tree.proofs.Members_met.{object_is}
use Rattle.olk_check.specs.Asks.{Asks}
use Rattle.olk_check.specs.Unpatterned.{alone_mean}
use Rattle.olk_check.proofs.Asked.{asks_as}
use Rattle.olk_check.proofs.Beside.{values_alone}
use Rattle.olk_check.proofs.additional_properties.values_accept.Goals as goal

pub returns-in-Some : goal.returns-in-Some
returns-in-Some g c =
    subst (λ v. Asks c.args.ctx.now c.each_value_accepted.new.ctx (both (alone_mean g.N.Means.means c.args.subschema.now v) (always true)) c.each_value_accepted.result)
    (object_is (g.A.Asked.stands_for c.args.asked) (members_view c.in-Some.members.now.entries) c.in-Some.ensures)
    (asks_as (values_alone g.N.Means.means c.args.subschema.now (object_of c.in-Some.members.now.entries) c.law_of_names.ensures) c.each_value_accepted.ensures)
