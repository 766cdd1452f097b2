use Rattle.std.proofs.Common.{true, option_map, option_to_list, sym, ap, ◌∙◌}
use Rattle.serde_json.specs.View.{view}
use Rattle.olk_tree.specs.Questions.{every}
use Rattle.olk_tree.proofs.Questions.{both_last}
use Rattle.olk_check.proofs.Asked.{asks_as, unasked}
use Rattle.olk_check.proofs.pattern_properties.named_accepted.Goals as goal

pub returns-in-Some : goal.returns-in-Some
returns-in-Some g c = asks_as (sym (both_last (g.N.Means.means c.args.subschema.now (view c.in-Some.value.now)))
    ∙ ap (λ o. every (g.N.Means.means c.args.subschema.now) (option_to_list o)) (sym (ap (option_map (λ v. view v.now)) c.in-Some.is) ∙ c.member.ensures)) c.check.ensures

pub returns-in-None : goal.returns-in-None
returns-in-None g c = asks_as (ap (λ o. every (g.N.Means.means c.args.subschema.now) (option_to_list o)) (sym (ap (option_map (λ v. view v.now)) c.in-None.is) ∙ c.member.ensures)) (unasked c.args.ctx.now true)
