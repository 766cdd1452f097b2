use Rattle.std.proofs.Common.{true, sym, ap, ◌∙◌}
use Rattle.std.specs.Prelude.{option_to_list}
use Rattle.std.specs.Option.{option_copied}
use Rattle.olk_tree.specs.Questions.{every}
use Rattle.olk_tree.proofs.Questions.{both_last}
use Rattle.olk_check.proofs.Asked.{asks_as, unasked}
use Rattle.olk_check.proofs.property_dependencies.choice_accepts.Goals as goal

pub returns-in-Some : goal.returns-in-Some
returns-in-Some g c = asks_as (sym (both_last (g.N.Means.means c.in-Some.dependency.now (g.A.Asked.stands_for c.args.asked)))
    ∙ ap (every (λ n. g.N.Means.means n (g.A.Asked.stands_for c.args.asked))) (sym (ap (λ o. option_to_list (option_copied o)) c.in-Some.is) ∙ c.chosen_by.ensures)) c.check.ensures

pub returns-in-None : goal.returns-in-None
returns-in-None g c = asks_as (ap (every (λ n. g.N.Means.means n (g.A.Asked.stands_for c.args.asked))) (sym (ap (λ o. option_to_list (option_copied o)) c.in-None.is) ∙ c.chosen_by.ensures)) (unasked c.args.ctx.now true)
