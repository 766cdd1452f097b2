use Rattle.serde_json.specs.View.{members_view}
use Rattle.olk_reports.specs.Paths.{path_at}
use Rattle.olk_errors.proofs.Loops.{walking_start, walking_turn, walking_end}
use Rattle.olk_errors.proofs.Members.{outcome_of_walk}
use Rattle.olk_errors.proofs.Sinks.{walks_same, walks_left}
use Rattle.olk_errors.proofs.properties.walk_each_name.Goals as goal

pub loop-name-init : goal.loop-name-init
loop-name-init g c = walking_start

pub loop-name-preserved : goal.loop-name-preserved
loop-name-preserved g c = walking_turn c.loop-name.invariant c.in-Some.ensures.steps c.in_ok-walk_below.ensures

pub returns-in_err-walk_below : goal.returns-in_err-walk_below
returns-in_err-walk_below g c =
    walks_same (λ u so. outcome_of_walk g.N.Means.means g.N.Reports.first g.N.Reports.report u c.args.properties (path_at c.args.trail.now)
    (members_view c.args.members.now.entries) c.into_iter-name-iterator.ensures.into_iter_gives c.of-name-items.ensures.by_names)
    (walks_left c.from_residual.ensures.0 (walking_turn c.loop-name.invariant c.in-Some.ensures.steps c.in_err-walk_below.ensures))

pub returns : goal.returns
returns g c =
    walks_same (λ u so. outcome_of_walk g.N.Means.means g.N.Reports.first g.N.Reports.report u c.args.properties (path_at c.args.trail.now)
    (members_view c.args.members.now.entries) c.into_iter-name-iterator.ensures.into_iter_gives c.of-name-items.ensures.by_names)
    (walking_end c.loop-name.invariant c.in-None.ensures.steps)
