use Rattle.std.proofs.Common.{sym}
use Rattle.olk_base.specs.Nodes.{subject_data}
use Rattle.olk_reports.specs.Paths.{path_at}
use Rattle.olk_tree.proofs.Due.{name_next, no_name_next}
use Rattle.olk_check.proofs.Asked.{only_same}
use Rattle.olk_errors.proofs.AdditionalHeld.{members_of_walk, values_unasked}
use Rattle.olk_errors.proofs.Loops.{walking_from, walking_turn, walking_end}
use Rattle.olk_errors.proofs.Sinks.{walks_past, walks_left}
use Rattle.olk_errors.proofs.additional_properties.walk_values.Goals as goal

pub returns-in_default : goal.returns-in_default
returns-in_default g c = walks_past (only_same c.args.ctx.now)
    (λ u so. values_unasked g.N.Means.means g.N.Reports.first g.N.Reports.report u c.args.subschema.now (subject_data c.args.node) (path_at c.args.trail.now) c.in_default.ensures)

pub loop-name-init : goal.loop-name-init
loop-name-init g c = walking_from (sym (members_of_walk (subject_data c.args.node) c.in-Some.ensures c.into_iter-name-iterator.ensures.into_iter_gives.0))

pub loop-name-preserved : goal.loop-name-preserved
loop-name-preserved g c = walking_turn c.loop-name.invariant (name_next c.in-Some-2.ensures.steps c.as_str.ensures.value) c.in_ok-walk_below.ensures

pub returns-in_err-walk_below : goal.returns-in_err-walk_below
returns-in_err-walk_below g c = walks_left c.from_residual.ensures.0
    (walking_turn c.loop-name.invariant (name_next c.in-Some-2.ensures.steps c.as_str.ensures.value) c.in_err-walk_below.ensures)

pub returns : goal.returns
returns g c = walking_end c.loop-name.invariant (no_name_next c.in-None.ensures.steps.0)
