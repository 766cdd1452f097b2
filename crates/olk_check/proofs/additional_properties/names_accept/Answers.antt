use Rattle.std.proofs.Common.{true, option_copied, subst, ◌∙◌}
use Rattle.serde_json.specs.View.{members_view}
use Rattle.olk_tree.specs.Questions.{always, both}
use Rattle.olk_tree.specs.Visited.{object_of}
use Rattle.olk_tree.proofs.Members_met.{object_is}
use Rattle.olk_check.specs.Together.{AsksOne}
use Rattle.olk_check.specs.Unpatterned.{names_mean, declared_mean}
use Rattle.olk_check.proofs.Beside.{names_alone}
use Rattle.olk_check.proofs.additional_properties.names_accept.Goals as goal

pub returns-in-Some : goal.returns-in-Some
returns-in-Some g c =
    let v = object_of c.in-Some.members.now.entries in
    subst (λ v. AsksOne c.args.ctx.now c.declared_accept.new.ctx (both (declared_mean g.N.Means.means c.args.properties.now (option_copied c.args.rest) v) (always true)) c.declared_accept.result)
    (object_is (g.A.Asked.stands_for c.args.asked) (members_view c.in-Some.members.now.entries) c.in-Some.ensures)
    (subst (λ q. AsksOne c.args.ctx.now c.declared_accept.new.ctx q c.declared_accept.result)
    ((λ i. names_mean g.N.Means.means (c.as_map.ensures i) (option_copied c.args.rest) v) ∙ names_alone g.N.Means.means c.args.properties.now (option_copied c.args.rest) v c.law_of_names.ensures)
    c.declared_accept.ensures)
