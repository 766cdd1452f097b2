use Rattle.std.proofs.Common.{[], ◌∷◌, rules, ap, subst, ◌∙◌}
use Rattle.serde_json.specs.View.{view}
use Rattle.olk_reports.specs.Paths.{one_below}
use Rattle.olk_reports.specs.Evaluations.{shown_of}
use Rattle.olk_check.proofs.Asked.{only_same}
use Rattle.olk_evaluate.specs.Wanted.{ShowsMore, wanted}
use Rattle.olk_evaluate.proofs.Shows.{kept_same, shows_err, shows_of}
use Rattle.olk_documents.proofs.evaluate.show_item.Goals as goal

pub returns-in_err-position : goal.returns-in_err-position
returns-in_err-position g c = shows_err c.from_residual.ensures.0 kept_same

pub returns-in_err-mark : goal.returns-in_err-mark
returns-in_err-mark g c = shows_err c.from_residual-in_err-mark.ensures.0 (record { path = c.in_err-mark.ensures.refused; only = only_same c.args.ctx.now.validation })

pub returns : goal.returns
returns g c = shows_of c.add_child-added.ensures.shown
    (record { path = search rules; only = c.add_child-added.ensures.kept.only })
    (λ u so _ more. subst (λ Q. ShowsMore (wanted g.N.Show.tree g.N.Means.means u c.args.n.now (view c.args.item.now) Q ∷ [])
    (shown_of c.args.outcome.now) (shown_of c.add_child-added.new.outcome)) (c.in_ok-mark.ensures.path ∙ ap (one_below c.args.ctx.now.path) (c.as_str.ensures.value ∙ c.in_ok-position.ensures.ok)) more)
