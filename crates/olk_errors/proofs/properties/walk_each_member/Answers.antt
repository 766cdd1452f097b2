use Rattle.std.proofs.Common.{ap}
use Rattle.serde_json.specs.View.{members_view}
use Rattle.olk_spec.specs.Schemas.{listed}
use Rattle.olk_reports.specs.Paths.{path_at}
use Rattle.olk_tree.proofs.Due.{name_next, no_name_next}
use Rattle.olk_tree.specs.Visited.{members_declared}
use Rattle.olk_errors.proofs.Loops.{walking_from, walking_end}
use Rattle.olk_errors.proofs.Members.{declared_turn}
use Rattle.olk_errors.proofs.Sinks.{walks_left}
use Rattle.olk_errors.proofs.properties.walk_each_member.Goals as goal

pub loop-name-init : goal.loop-name-init
loop-name-init g c = walking_from (ap (λ es. members_declared c.args.properties (listed (members_view es))) c.into_iter-name-iterator.ensures.into_iter_gives.0)

pub loop-name-preserved : goal.loop-name-preserved
loop-name-preserved g c = declared_turn g.N.Means.means g.N.Reports.first g.N.Reports.report (path_at c.args.trail.now) c.args.properties
    (listed (members_view c.args.members.now.entries)) c.loop-name.invariant
    (name_next c.in-Some.ensures.steps c.as_str-name.ensures.value)
    c.node_from-next.ensures c.in_ok-walk_if_declared.ensures

pub returns-in_err-walk_if_declared : goal.returns-in_err-walk_if_declared
returns-in_err-walk_if_declared g c = walks_left c.from_residual.ensures.0
    (declared_turn g.N.Means.means g.N.Reports.first g.N.Reports.report (path_at c.args.trail.now) c.args.properties
    (listed (members_view c.args.members.now.entries)) c.loop-name.invariant
    (name_next c.in-Some.ensures.steps c.as_str-name.ensures.value)
    c.node_from-next.ensures c.in_err-walk_if_declared.ensures)

pub returns : goal.returns
returns g c = walking_end c.loop-name.invariant (ap (members_declared c.args.properties) (no_name_next c.in-None.ensures.steps.0))
