use Rattle.std.proofs.Common.{not, subst}
use Rattle.std.proofs.lemmas.Result.{on_ok_weaker}
use Rattle.olk_base.specs.Nodes.{subject_data}
use Rattle.olk_spec.specs.Faults.{Required}
use Rattle.olk_spec.specs.Reports.{fault_if}
use Rattle.olk_reports.specs.Evaluations.{AddsErrors, shown_of}
use Rattle.olk_reports.proofs.Errors.{kind_of_required}
use Rattle.olk_evaluate.proofs.OwnErrors.{adds_none, adds_as}
use Rattle.olk_evaluate.proofs.required.add_error_if_missing.Goals as goal

pub returns-then-has_member : goal.returns-then-has_member
returns-then-has_member c P Q = subst (λ b. AddsErrors (fault_if (not b) (Required c.args.name.now) (subject_data c.args.node) P Q) (shown_of c.args.outcome.now) (shown_of c.args.outcome.now))
    c.if-has_member.ensures (adds_none (shown_of c.args.outcome.now))

pub returns : goal.returns
returns c = on_ok_weaker c.mark_errored_by.result (λ added P Q.
    subst (λ b. AddsErrors (fault_if (not b) (Required c.args.name.now) (subject_data c.args.node) P Q) (shown_of c.args.outcome.now) (shown_of c.mark_errored_by.new.self))
    c.if-has_member.ensures (adds_as (kind_of_required c.args.name) c.node.ensures (added P Q))) c.mark_errored_by.ensures.added
