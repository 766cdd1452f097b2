use Rattle.std.proofs.Common.{true, false, not, refl, ap, ◌∙◌, codes}
use Rattle.std.proofs.Math.Bool.{not-not}
use Rattle.olk_base.specs.Nodes.{subject_data}
use Rattle.olk_spec.specs.Faults.{Leaf}
use Rattle.olk_document_spec.specs.Applied.{contains_text}
use Rattle.olk_reports.specs.Evaluations.{shown_of}
use Rattle.olk_reports.proofs.Errors.{kind_of_leaf}
use Rattle.olk_check.proofs.Asked.{verdict_of}
use Rattle.olk_evaluate.proofs.Children.{shown_as}
use Rattle.olk_evaluate.proofs.OwnErrors.{adds_none, adds_as, refusal_shown}
use Rattle.olk_evaluate.proofs.Shows.{kept_asked, shows_err, shows_by}
use Rattle.olk_documents.proofs.evaluate.ContainsShow.show.Goals as goal

pub returns-then-accepts : goal.returns-then-accepts
returns-then-accepts g c = record {
  shown = λ u so. shown_as (refusal_shown (Leaf (codes "contains") (contains_text (subject_data c.args.node))) (subject_data c.args.node) c.args.self.now.location c.args.ctx.now.path false
      (ap not (verdict_of c.if-accepts.ensures so)) c.requires (adds_none (shown_of c.args.outcome.now))) refl (not-not _);
  kept = kept_asked c.if-accepts.ensures.only;
}

pub returns-in_err-text : goal.returns-in_err-text
returns-in_err-text g c = shows_err c.from_residual.ensures.0 (kept_asked c.if-accepts.ensures.only)

pub returns : goal.returns
returns g c = let text = c.in_ok-text.ensures ∙ ap contains_text c.node.ensures in
    shows_by c.mark_errored_by.ensures.added (kept_asked c.if-accepts.ensures.only) (λ u so _ added.
    shown_as (refusal_shown (Leaf (codes "contains") (contains_text (subject_data c.args.node))) (subject_data c.args.node) c.args.self.now.location c.args.ctx.now.path true
    (ap not (verdict_of c.if-accepts.ensures so)) c.requires
    (adds_as (kind_of_leaf _ _ ∙ ap (Leaf (codes "contains")) text) c.node-2.ensures (added c.args.self.now.location c.args.ctx.now.path))) refl (not-not _))
