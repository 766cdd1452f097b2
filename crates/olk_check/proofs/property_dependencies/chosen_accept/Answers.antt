use Rattle.olk_check.proofs.Asked.{asks_as}
use Rattle.serde_json.specs.View.{members_view}
use Rattle.olk_tree.specs.Maps.{named}
use Rattle.olk_tree.proofs.Due.{every_chosen}
use Rattle.olk_check.proofs.Walks.{all_go_on, all_stop, all_end}
use Rattle.olk_check.proofs.property_dependencies.chosen_accept.Goals as goal

pub returns-then-not-choice_accepts : goal.returns-then-not-choice_accepts
returns-then-not-choice_accepts g c = asks_as (every_chosen (members_view c.args.members.now.entries) (named c.args.dependencies.now) c.into_iter-choices-iterator.ensures.into_iter_gives c.declared_members-choices-items.ensures.by_names (g.A.Asked.stands_for c.args.asked) c.requires (λ n. g.N.Means.means n (g.A.Asked.stands_for c.args.asked))) (all_stop c.loop-choices.invariant c.in-Some.ensures.steps c.if-not-choice_accepts.ensures)

pub loop-choices-preserved : goal.loop-choices-preserved
loop-choices-preserved g c = all_go_on c.loop-choices.invariant c.in-Some.ensures.steps c.if-not-choice_accepts.ensures

pub returns : goal.returns
returns g c = asks_as (every_chosen (members_view c.args.members.now.entries) (named c.args.dependencies.now) c.into_iter-choices-iterator.ensures.into_iter_gives c.declared_members-choices-items.ensures.by_names (g.A.Asked.stands_for c.args.asked) c.requires (λ n. g.N.Means.means n (g.A.Asked.stands_for c.args.asked))) (all_end c.loop-choices.invariant c.in-None.ensures.steps)
