use Rattle.std.proofs.Common.{◌++◌, refl, sym, ap, subst, ◌∙◌}
use Rattle.std.specs.List.{flat_map}
use Rattle.serde_json.specs.View.{members_view}
use Rattle.olk_base.specs.Nodes.{subject_data}
use Rattle.olk_reports.specs.Evaluations.{shown_of}
use Rattle.olk_tree.specs.Maps.{named}
use Rattle.olk_tree.specs.PropertyDependencies.{chosen_nodes}
use Rattle.olk_tree.specs.Visited.{left_of}
use Rattle.olk_tree.proofs.Due.{chosen, all_chosen, none_chosen}
use Rattle.olk_tree.proofs.Maps.{map-flat_map}
use Rattle.olk_tree.proofs.Members_met.{object_is}
use Rattle.olk_evaluate.specs.Wanted.{ShowsMore, wanted}
use Rattle.olk_evaluate.proofs.Children.{shows_both, shows_each, shows_no_branch, shows_none}
use Rattle.olk_evaluate.proofs.Shows.{kept_same, kept_then, shows_err, leaves_all, leaves_rest, leaves_same, leaves_none}
use Rattle.olk_evaluate.proofs.property_dependencies.PropertyDependenciesShow.show.Goals as goal

pub returns-in_default : goal.returns-in_default
returns-in_default g c = record {
  shown = λ u so. shows_no_branch g.N.Show.tree g.N.Means.means u (subject_data c.args.node) c.args.ctx.now.path
      (chosen_nodes (named c.args.self.now.dependencies) (subject_data c.args.node)) (none_chosen (subject_data c.args.node) c.in_default.ensures (named c.args.self.now.dependencies)) c.requires
      c.args.self.now.location;
  kept = kept_same;
}

pub loop-choices-init : goal.loop-choices-init
loop-choices-init g c = leaves_all refl

pub loop-choices-preserved-in_default-chosen_by : goal.loop-choices-preserved-in_default-chosen_by
loop-choices-preserved-in_default-chosen_by g c = leaves_same c.loop-choices.invariant
    (ap (flat_map chosen) c.in-Some-2.ensures.steps ∙ ap (λ ns. ns ++ flat_map chosen (left_of c.next.new.self)) (sym c.in_default-chosen_by.ensures)) kept_same

pub loop-choices-preserved : goal.loop-choices-preserved
loop-choices-preserved g c = leaves_rest c.loop-choices.invariant
    (ap (flat_map chosen) c.in-Some-2.ensures.steps ∙ ap (λ ns. ns ++ flat_map chosen (left_of c.next.new.self)) (sym c.in-Some-chosen_by.ensures))
    (λ u so _. shows_both (c.in_ok-add_child.ensures.shown u so)) c.add_child.ensures.kept

pub returns-in_err-add_child : goal.returns-in_err-add_child
returns-in_err-add_child g c = shows_err c.from_residual.ensures.0 (kept_then c.loop-choices.invariant.kept c.add_child.ensures.kept)

pub returns : goal.returns
returns g c =
    let entries = members_view c.in-Some.members.now.entries in
    record {
      shown = λ u so. shows_each g.N.Show.tree g.N.Means.means u (subject_data c.args.node) c.args.ctx.now.path
          (chosen_nodes (named c.args.self.now.dependencies) (subject_data c.args.node))
          c.requires (subst (λ ws. ShowsMore ws (shown_of c.args.outcome.now) (shown_of c.loop-choices.outcome))
          (sym (map-flat_map _ chosen (left_of c.into_iter-choices-iterator.result))
          ∙ all_chosen entries (named c.args.self.now.dependencies) c.into_iter-choices-iterator.ensures.into_iter_gives c.declared_members-choices-items.ensures.by_names
          (subject_data c.args.node) (sym (object_is (subject_data c.args.node) entries c.in-Some.ensures)) (λ n. wanted g.N.Show.tree g.N.Means.means u n (subject_data c.args.node) c.args.ctx.now.path))
          (leaves_none c.loop-choices.invariant (ap (flat_map chosen) c.in-None.ensures.steps) so (shows_none (shown_of c.loop-choices.outcome)))) c.args.self.now.location;
      kept = c.loop-choices.invariant.kept;
    }
