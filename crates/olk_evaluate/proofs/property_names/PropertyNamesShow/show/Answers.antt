use Rattle.std.proofs.Common.{refl, ap, ◌∙◌}
use Rattle.serde_json.specs.Data.{object}
use Rattle.serde_json.specs.View.{members_view}
use Rattle.olk_base.specs.Nodes.{subject_data}
use Rattle.olk_reports.specs.Evaluations.{shown_of}
use Rattle.olk_tree.proofs.Due.{name_next, no_name_next}
use Rattle.olk_tree.proofs.Members_met.{object_is, no_members}
use Rattle.olk_evaluate.proofs.Children.{names_shown, no_name_shown, shows_both, shows_none, shows_from}
use Rattle.olk_evaluate.proofs.Shows.{kept_same, kept_then, shows_err, leaves_all, leaves_rest, leaves_none}
use Rattle.olk_evaluate.proofs.property_names.PropertyNamesShow.show.Goals as goal

pub returns-in_default : goal.returns-in_default
returns-in_default g c = record {
  shown = λ u so. names_shown g.N.Show.tree g.N.Means.means u c.args.self.now.node c.args.self.now.location c.args.ctx.now.path (subject_data c.args.node) (subject_data c.args.node) refl c.requires
      (no_name_shown g.N.Show.tree g.N.Means.means u c.args.self.now.node c.args.self.now.location c.args.ctx.now.path (subject_data c.args.node)
      (no_members (subject_data c.args.node) c.in_default.ensures) (shown_of c.args.outcome.now));
  kept = kept_same;
}

pub loop-name-init : goal.loop-name-init
loop-name-init g c = leaves_all refl

pub loop-name-preserved : goal.loop-name-preserved
loop-name-preserved g c = leaves_rest c.loop-name.invariant (name_next c.in-Some-2.ensures.steps c.as_str-name.ensures.value) (λ u so _. shows_both (c.in_ok-add_child.ensures.shown u so)) c.add_child.ensures.kept

pub returns-in_err-reserve_children : goal.returns-in_err-reserve_children
returns-in_err-reserve_children g c = shows_err c.from_residual.ensures.0 kept_same

pub returns-in_err-add_child : goal.returns-in_err-add_child
returns-in_err-add_child g c = shows_err c.from_residual-in_err-add_child.ensures.0 (kept_then c.loop-name.invariant.kept c.add_child.ensures.kept)

pub returns : goal.returns
returns g c = record {
  shown = λ u so. names_shown g.N.Show.tree g.N.Means.means u c.args.self.now.node c.args.self.now.location c.args.ctx.now.path (subject_data c.args.node)
      (object (members_view c.into_iter-name-iterator.result))
      (ap (λ es. object (members_view es)) c.into_iter-name-iterator.ensures.into_iter_gives.0
      ∙ object_is (subject_data c.args.node) (members_view c.in-Some.members.now.entries) c.in-Some.ensures)
      c.requires (shows_from c.reserve_children.ensures
      (leaves_none c.loop-name.invariant (no_name_next c.in-None.ensures.steps.0) so (shows_none (shown_of c.loop-name.outcome))));
  kept = c.loop-name.invariant.kept;
}
