use Rattle.std.proofs.Common.{false, ap, ◌∙◌}
use Rattle.olk_base.specs.Nodes.{subject_data}
use Rattle.olk_reports.specs.Evaluations.{errored, shown_of}
use Rattle.olk_tree.specs.Shown.{several_accept}
use Rattle.olk_evaluate.proofs.OneOf.{none_or_one, two_or_more}
use Rattle.olk_evaluate.proofs.Shows.{shows_by, shows_err}
use Rattle.olk_evaluate.proofs.one_of.OneOfShow.show.Goals as goal

pub returns-in_err-count : goal.returns-in_err-count
returns-in_err-count g c = shows_err c.from_residual.ensures.0 c.show_accepting.ensures.kept

pub returns-in_err-message : goal.returns-in_err-message
returns-in_err-message g c = shows_err c.from_residual-in_err-message.ensures.0 c.show_accepting.ensures.kept

pub returns-then-count-lt2 : goal.returns-then-count-lt2
returns-then-count-lt2 g c = record {
  shown = λ u so. none_or_one g.N.Show.tree g.N.Means.means u (subject_data c.args.node) c.args.self.now.location c.args.ctx.now.path c.args.self.now.schemas.items
      (c.in_ok-count.ensures.shown u so) c.if-count-lt2.true;
  kept = c.show_accepting.ensures.kept;
}

pub returns : goal.returns
returns g c = shows_by c.mark_errored.ensures.ok c.show_accepting.ensures.kept (λ u so _ told.
    two_or_more g.N.Show.tree g.N.Means.means u (subject_data c.args.node) c.args.self.now.location c.args.ctx.now.path c.args.self.now.schemas.items
    (c.in_ok-count.ensures.shown u so) c.if-count-lt2.false (told ∙ ap (λ d. errored d (shown_of c.show_accepting.new.outcome))
    (c.new.ensures ∙ ap (λ message. (several_accept.0, message, false)) c.in_ok-message.ensures.ok)))
