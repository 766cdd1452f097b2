use Rattle.olk_check.proofs.Asked.{asks_as}
use Rattle.serde_json.specs.View.{members_view}
use Rattle.olk_tree.specs.Maps.{named}
use Rattle.olk_tree.proofs.Due.{every_due}
use Rattle.olk_check.proofs.Walks.{all_go_on, all_stop, all_end}
use Rattle.olk_check.proofs.dependencies.due_accept.Goals as goal

pub returns-then-not-check : goal.returns-then-not-check
returns-then-not-check g c = asks_as (every_due (members_view c.args.members.now.entries) (named c.args.dependencies.now) c.into_iter-dependency-iterator.ensures.into_iter_gives c.declared_members-dependency-items.ensures.by_names (g.A.Asked.stands_for c.args.asked) c.requires (λ n. g.N.Means.means n (g.A.Asked.stands_for c.args.asked))) (all_stop c.loop-dependency.invariant c.in-Some.ensures.steps c.if-not-check.ensures)

pub loop-dependency-preserved : goal.loop-dependency-preserved
loop-dependency-preserved g c = all_go_on c.loop-dependency.invariant c.in-Some.ensures.steps c.if-not-check.ensures

pub returns : goal.returns
returns g c = asks_as (every_due (members_view c.args.members.now.entries) (named c.args.dependencies.now) c.into_iter-dependency-iterator.ensures.into_iter_gives c.declared_members-dependency-items.ensures.by_names (g.A.Asked.stands_for c.args.asked) c.requires (λ n. g.N.Means.means n (g.A.Asked.stands_for c.args.asked))) (all_end c.loop-dependency.invariant c.in-None.ensures.steps)
