use Rattle.std.proofs.Common.{false, true}
use Rattle.serde_json.specs.View.{view}
use Rattle.olk_base.specs.Nodes.{subject_data}
use Rattle.olk_spec.specs.Faults.{Not as Refuses}
use Rattle.olk_reports.specs.Evaluations.{shown_of}
use Rattle.olk_reports.proofs.Errors.{kind_of_not}
use Rattle.olk_evaluate.proofs.OwnErrors.{adds_none, adds_as, refusal_shown}
use Rattle.olk_evaluate.proofs.Shows.{kept_asked, shows_by}
use Rattle.olk_check.proofs.Asked.{verdict_of}
use Rattle.olk_evaluate.proofs.not.NotShow.show.Goals as goal

pub returns-then-not-accepts : goal.returns-then-not-accepts
returns-then-not-accepts g c = record {
  shown = λ u so. refusal_shown (Refuses (view c.args.self.now.original)) (subject_data c.args.node) c.args.self.now.location c.args.ctx.now.path false (verdict_of c.if-not-accepts.ensures so) c.requires
      (adds_none (shown_of c.args.outcome.now));
  kept = kept_asked c.if-not-accepts.ensures.only;
}

pub returns : goal.returns
returns g c = shows_by c.mark_errored_by.ensures.added (kept_asked c.if-not-accepts.ensures.only) (λ u so _ added.
    refusal_shown (Refuses (view c.args.self.now.original)) (subject_data c.args.node) c.args.self.now.location c.args.ctx.now.path true (verdict_of c.if-not-accepts.ensures so) c.requires
    (adds_as (kind_of_not _) c.node.ensures (added c.args.self.now.location c.args.ctx.now.path)))
