use Rattle.serde_json.specs.View.{members_view}
use Rattle.olk_tree.specs.Maps.{named}
use Rattle.olk_errors.proofs.Due.{due_of_walk}
use Rattle.olk_errors.proofs.Loops.{walking_start, walking_turn, walking_end}
use Rattle.olk_errors.proofs.Sinks.{walks_same, walks_left}
use Rattle.olk_errors.proofs.dependencies.walk_due.Goals as goal

pub loop-dependency-init : goal.loop-dependency-init
loop-dependency-init g c = walking_start

pub loop-dependency-preserved : goal.loop-dependency-preserved
loop-dependency-preserved g c = walking_turn c.loop-dependency.invariant c.in-Some.ensures.steps c.in_ok-walk.ensures

pub returns-in_err-walk : goal.returns-in_err-walk
returns-in_err-walk g c = walks_same (λ u so. due_of_walk g.N.Means.means g.N.Reports.first g.N.Reports.report u _ _
    (members_view c.args.members.now.entries) c.requires (named c.args.dependencies.now) c.into_iter-dependency-iterator.ensures.into_iter_gives
    c.declared_members-dependency-items.ensures.by_names)
    (walks_left c.from_residual.ensures.0 (walking_turn c.loop-dependency.invariant c.in-Some.ensures.steps c.in_err-walk.ensures))

pub returns : goal.returns
returns g c = walks_same (λ u so. due_of_walk g.N.Means.means g.N.Reports.first g.N.Reports.report u _ _
    (members_view c.args.members.now.entries) c.requires (named c.args.dependencies.now) c.into_iter-dependency-iterator.ensures.into_iter_gives
    c.declared_members-dependency-items.ensures.by_names)
    (walking_end c.loop-dependency.invariant c.in-None.ensures.steps)
