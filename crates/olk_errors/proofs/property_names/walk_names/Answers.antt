use Rattle.std.proofs.Common.{refl, ap}
use Rattle.serde_json.specs.View.{members_view}
use Rattle.olk_spec.specs.Schemas.{listed}
use Rattle.olk_tree.proofs.Due.{name_next, no_name_next}
use Rattle.olk_errors.proofs.Loops.{walking_from, walking_turn, walking_end}
use Rattle.olk_errors.proofs.Names.{names_of_walk}
use Rattle.olk_errors.proofs.Sinks.{walks_same, walks_left}
use Rattle.olk_errors.proofs.property_names.walk_names.Goals as goal

pub loop-name-init : goal.loop-name-init
loop-name-init g c = walking_from (ap (λ es. listed (members_view es)) c.into_iter-name-iterator.ensures.into_iter_gives.0)

pub loop-name-preserved : goal.loop-name-preserved
loop-name-preserved g c = walking_turn c.loop-name.invariant (name_next c.in-Some.ensures.steps refl) c.in_ok-walk_name.ensures

pub returns-in_err-walk_name : goal.returns-in_err-walk_name
returns-in_err-walk_name g c = walks_same (λ u so. names_of_walk _ _ g.N.Means.means g.N.Reports.first g.N.Reports.report
    u c.args.subschema.now (members_view c.args.members.now.entries) c.requires)
    (walks_left c.from_residual.ensures.0 (walking_turn c.loop-name.invariant (name_next c.in-Some.ensures.steps refl) c.in_err-walk_name.ensures))

pub returns : goal.returns
returns g c = walks_same (λ u so. names_of_walk _ _ g.N.Means.means g.N.Reports.first g.N.Reports.report
    u c.args.subschema.now (members_view c.args.members.now.entries) c.requires)
    (walking_end c.loop-name.invariant (no_name_next c.in-None.ensures.steps.0))
