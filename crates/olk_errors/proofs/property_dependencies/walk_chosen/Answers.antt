use Rattle.serde_json.specs.View.{members_view}
use Rattle.olk_tree.specs.Maps.{named}
use Rattle.olk_errors.proofs.Due.{chosen_of_walk}
use Rattle.olk_errors.proofs.Loops.{walking_start, walking_turn, walking_end}
use Rattle.olk_errors.proofs.Sinks.{walks_same, walks_left}
use Rattle.olk_errors.proofs.property_dependencies.walk_chosen.Goals as goal

pub loop-choices-init : goal.loop-choices-init
loop-choices-init g c = walking_start

pub loop-choices-preserved : goal.loop-choices-preserved
loop-choices-preserved g c = walking_turn c.loop-choices.invariant c.in-Some.ensures.steps c.in_ok-walk_choice.ensures

pub returns-in_err-walk_choice : goal.returns-in_err-walk_choice
returns-in_err-walk_choice g c = walks_same (λ u so. chosen_of_walk g.N.Means.means g.N.Reports.first g.N.Reports.report u _ _
    (members_view c.args.members.now.entries) c.requires (named c.args.dependencies.now) c.into_iter-choices-iterator.ensures.into_iter_gives
    c.declared_members-choices-items.ensures.by_names)
    (walks_left c.from_residual.ensures.0 (walking_turn c.loop-choices.invariant c.in-Some.ensures.steps c.in_err-walk_choice.ensures))

pub returns : goal.returns
returns g c = walks_same (λ u so. chosen_of_walk g.N.Means.means g.N.Reports.first g.N.Reports.report u _ _
    (members_view c.args.members.now.entries) c.requires (named c.args.dependencies.now) c.into_iter-choices-iterator.ensures.into_iter_gives
    c.declared_members-choices-items.ensures.by_names)
    (walking_end c.loop-choices.invariant c.in-None.ensures.steps)
