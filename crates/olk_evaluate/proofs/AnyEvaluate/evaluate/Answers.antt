use Rattle.std.proofs.Common.{subst, ◌∙◌, Bool, sym}
use Rattle.std.proofs.lemmas.Result.{IfOk-from_err}
use Rattle.olk_base.specs.Nodes.{subject_data, data_of}
use Rattle.olk_check.specs.Asks.{OnlyAsks, IsAnswer}
use Rattle.olk_reports.specs.Evaluations.{node_at, shown_of}
use Rattle.olk_evaluate.specs.Wanted.{IsShown, wanted}
use Rattle.olk_check.proofs.Asked.{certain_of, own_answer}
use Rattle.olk_evaluate.proofs.AnyEvaluate.evaluate.Goals as goal

pub returns-in_err-shown : goal.returns-in_err-shown
returns-in_err-shown g c =
    let failed = c.from_residual.ensures.0 in
    record {
      tree = IfOk-from_err c.from_residual.result _ failed;
      verdict = IfOk-from_err c.from_residual.result _ failed;
      certain = IfOk-from_err c.from_residual.result _ failed;
      path = c.show-shown.ensures.kept.path ∙ c.replace.ensures.value;
      context = subst (λ a. OnlyAsks a c.show-shown.new.ctx.validation) c.replace-2.ensures.value c.show-shown.ensures.kept.only;
    }

pub returns : goal.returns
returns g c =
    let asked : (u : Bool) → IsAnswer c.args.ctx.now c.show-shown.new.ctx.validation u
    → IsShown (wanted g.S.Show.tree g.S.Means.means u c.args.self.now (data_of c.args.node) c.args.path.now) (node_at (g.S.Show.place c.args.self.now) c.args.path.now (shown_of c.show-shown.new.outcome))
    = λ u so. subst (λ v. IsShown (wanted g.S.Show.tree g.S.Means.means u c.args.self.now v c.args.path.now) (node_at (g.S.Show.place c.args.self.now) c.args.path.now (shown_of c.show-shown.new.outcome)))
    c.of.ensures (subst (λ Q. IsShown (wanted g.S.Show.tree g.S.Means.means u c.args.self.now (subject_data c.of.result) Q) (node_at (g.S.Show.place c.args.self.now) Q (shown_of c.show-shown.new.outcome)))
    c.replace.ensures.value (c.in_ok-shown.ensures.shown u (subst (λ a. IsAnswer a c.show-shown.new.ctx.validation u) (sym c.replace-2.ensures.value) so))) in
    record {
      tree = (asked c.args.ctx.now.answer own_answer).like;
      verdict = (asked c.args.ctx.now.answer own_answer).verdict;
      certain = certain_of (λ u so. (asked u so).verdict);
      path = c.show-shown.ensures.kept.path ∙ c.replace.ensures.value;
      context = subst (λ a. OnlyAsks a c.show-shown.new.ctx.validation) c.replace-2.ensures.value c.show-shown.ensures.kept.only;
    }
