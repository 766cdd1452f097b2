use Rattle.std.proofs.Common.{refl, sym, subst}
use Rattle.serde_json.specs.View.{members_view}
use Rattle.olk_base.specs.Nodes.{subject_data}
use Rattle.olk_reports.specs.Evaluations.{shown_of}
use Rattle.olk_tree.specs.Maps.{named}
use Rattle.olk_tree.proofs.Due.{all_due, none_due}
use Rattle.olk_tree.proofs.Members_met.{object_is}
use Rattle.olk_evaluate.specs.Wanted.{ShowsMore, wanted, each_wanted}
use Rattle.olk_evaluate.proofs.Children.{shows_both, shows_none}
use Rattle.olk_evaluate.proofs.Shows.{kept_same, kept_then, shows_err, leaves_all, leaves_rest, leaves_none}
use Rattle.olk_evaluate.proofs.dependencies.show_due.Goals as goal

pub returns-in_default : goal.returns-in_default
returns-in_default g c = record {
  shown = λ u so. subst (λ ns. ShowsMore (each_wanted g.N.Show.tree g.N.Means.means u ns (subject_data c.args.node) c.args.ctx.now.path)
      (shown_of c.args.outcome.now) (shown_of c.args.outcome.now))
      (sym (none_due (subject_data c.args.node) c.in_default.ensures (named c.args.dependencies.now))) (shows_none (shown_of c.args.outcome.now));
  kept = kept_same;
}

pub loop-dependency-init : goal.loop-dependency-init
loop-dependency-init g c = leaves_all refl

pub loop-dependency-preserved : goal.loop-dependency-preserved
loop-dependency-preserved g c = leaves_rest c.loop-dependency.invariant c.in-Some-2.ensures.steps (λ u so _. shows_both (c.in_ok-add_child.ensures.shown u so)) c.add_child.ensures.kept

pub returns-in_err-add_child : goal.returns-in_err-add_child
returns-in_err-add_child g c = shows_err c.from_residual.ensures.0 (kept_then c.loop-dependency.invariant.kept c.add_child.ensures.kept)

pub returns : goal.returns
returns g c =
    let entries = members_view c.in-Some.members.now.entries in
    record {
      shown = λ u so. subst (λ ws. ShowsMore ws (shown_of c.args.outcome.now) (shown_of c.loop-dependency.outcome))
          (all_due entries (named c.args.dependencies.now) c.into_iter-dependency-iterator.ensures.into_iter_gives c.declared_members-dependency-items.ensures.by_names
          (subject_data c.args.node) (sym (object_is (subject_data c.args.node) entries c.in-Some.ensures)) (λ n. wanted g.N.Show.tree g.N.Means.means u n (subject_data c.args.node) c.args.ctx.now.path))
          (leaves_none c.loop-dependency.invariant c.in-None.ensures.steps so (shows_none (shown_of c.loop-dependency.outcome)));
      kept = c.loop-dependency.invariant.kept;
    }
