use Rattle.std.proofs.Common.{[], ◌∷◌, refl, sym, ap, subst, ◌∙◌}
use Rattle.olk_base.specs.Nodes.{subject_data}
use Rattle.olk_spec.specs.Faults.{fault, FalseSchema, Required}
use Rattle.olk_spec.specs.Accepts.{missing}
use Rattle.olk_spec.specs.Reports.{required_faults}
use Rattle.olk_reports.specs.Evaluations.{shown_of}
use Rattle.olk_reports.proofs.Errors.{kind_of_false_schema}
use Rattle.olk_tree.specs.Maps.{texts_of}
use Rattle.olk_tree.specs.declared.node.Body.TheVariants.{RequiredNames}
use Rattle.olk_evaluate.specs.Wanted.{ShowsBody}
use Rattle.olk_evaluate.proofs.Children.{shown_as, shows_each, shows_nothing}
use Rattle.olk_evaluate.proofs.OwnErrors.{adds_as, erring_shown, same_emptiness}
use Rattle.olk_evaluate.proofs.Shows.{kept_same, shows_by, shows_weaker}
use Rattle.olk_evaluate.proofs.node.show_body.Goals as goal

pub returns-in-True : goal.returns-in-True
returns-in-True g c = record {
  shown = λ u so. subst (λ b. ShowsBody g.W.Show.tree g.W.Means.means u b (subject_data c.args.node) c.args.ctx.now.path (shown_of c.args.outcome.now)) (sym c.in-True.is)
      (λ P. shows_nothing P c.args.ctx.now.path c.requires refl refl);
  kept = kept_same;
}

pub returns-in-False : goal.returns-in-False
returns-in-False g c = shows_by c.mark_errored_by.ensures.added kept_same (λ u so _ error.
    subst (λ b. ShowsBody g.W.Show.tree g.W.Means.means u b (subject_data c.args.node) c.args.ctx.now.path (shown_of c.mark_errored_by.new.self)) (sym c.in-False.is)
    (λ P. erring_shown P c.args.ctx.now.path (fault FalseSchema (subject_data c.args.node) c.args.ctx.now.path P ∷ []) c.requires (adds_as kind_of_false_schema c.node.ensures (error P c.args.ctx.now.path))))

pub returns-in-Keywords : goal.returns-in-Keywords
returns-in-Keywords g c = shows_weaker c.show_each.ensures (λ u so _ each.
    subst (λ b. ShowsBody g.W.Show.tree g.W.Means.means u b (subject_data c.args.node) c.args.ctx.now.path (shown_of c.show_each.new.outcome)) (sym c.in-Keywords.is)
    (shows_each g.W.Show.tree g.W.Means.means u (subject_data c.args.node) c.args.ctx.now.path c.in-Keywords.keywords.items c.requires each))

pub returns-in-RequiredNames : goal.returns-in-RequiredNames
returns-in-RequiredNames g c =
    let required = c.deref.result.now in
    shows_by c.add_missing.ensures kept_same (λ u so _ errors.
    subst (λ b. ShowsBody g.W.Show.tree g.W.Means.means u b (subject_data c.args.node) c.args.ctx.now.path (shown_of c.add_missing.new.outcome))
    (ap (λ k. RequiredNames record c.in-RequiredNames.required { value = k }) c.deref.ensures ∙ sym c.in-RequiredNames.is)
    (λ P. shown_as (erring_shown P c.args.ctx.now.path (required_faults (texts_of required.required.items) (subject_data c.args.node) required.location c.args.ctx.now.path) c.requires
    (errors required.location c.args.ctx.now.path)) refl
    (same_emptiness (λ n. fault (Required n) (subject_data c.args.node) c.args.ctx.now.path required.location) (missing (texts_of required.required.items) (subject_data c.args.node)))))
