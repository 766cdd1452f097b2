use Rattle.std.proofs.Common.{refl, ap, ◌∙◌}
use Rattle.serde_json.specs.View.{members_view}
use Rattle.olk_reports.specs.Evaluations.{shown_of}
use Rattle.olk_tree.specs.Visited.{left_of}
use Rattle.olk_tree.proofs.Members_met.{means_of_walk}
use Rattle.olk_evaluate.proofs.Members.{meets_nothing, meets_both, all_met}
use Rattle.olk_evaluate.proofs.Shows.{kept_same, kept_then, shows_err, leaves_all, leaves_rest, leaves_none}
use Rattle.olk_evaluate.proofs.properties.show_declared_members.Goals as goal

pub returns-in_err-make_room : goal.returns-in_err-make_room
returns-in_err-make_room g c = shows_err c.from_residual.ensures.0 kept_same

pub loop-name-init : goal.loop-name-init
loop-name-init g c = leaves_all refl

pub loop-name-preserved : goal.loop-name-preserved
loop-name-preserved g c = leaves_rest c.loop-name.invariant c.in-Some.ensures.steps (λ u so _. meets_both (c.in_ok-show_member.ensures.shown u so)) c.show_member.ensures.kept

pub returns-in_err-show_member : goal.returns-in_err-show_member
returns-in_err-show_member g c = shows_err c.from_residual-in_err-show_member.ensures.0 (kept_then c.loop-name.invariant.kept c.show_member.ensures.kept)

pub returns : goal.returns
returns g c = record {
  shown = λ u so. all_met g.N.Show.tree g.N.Means.means u c.args.ctx.now.path
      (ap left_of c.into_iter-name-iterator.ensures.into_iter_gives ∙ c.of-name-items.ensures.by_members)
      (means_of_walk (members_view c.args.members.now.entries) c.args.properties c.into_iter-name-iterator.ensures.into_iter_gives c.of-name-items.ensures.by_names g.N.Means.means)
      c.requires c.in_ok-make_room.ensures (leaves_none c.loop-name.invariant c.in-None.ensures.steps so (meets_nothing (shown_of c.loop-name.outcome)));
  kept = c.loop-name.invariant.kept;
}
