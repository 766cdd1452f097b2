use Rattle.std.proofs.Common.{[], ◌∷◌, refl, ap}
use Rattle.std.proofs.lemmas.Result.{on_ok_weaker}
use Rattle.serde_json.specs.Data.{object}
use Rattle.serde_json.specs.View.{members_view}
use Rattle.olk_base.specs.Nodes.{subject_data}
use Rattle.olk_reports.specs.Evaluations.{shown_of}
use Rattle.olk_reports.proofs.Errors.{kind_of_required}
use Rattle.olk_evaluate.proofs.OwnErrors.{adds_as, not_lacking, one_lacking, same_lacking}
use Rattle.olk_evaluate.proofs.required.add_missing_name.Goals as goal

pub returns-then-has_member : goal.returns-then-has_member
returns-then-has_member c = same_lacking (subject_data c.args.node) (object (members_view c.args.members.now.entries)) (ap (λ n. n ∷ []) c.as_str-name.ensures.value) refl refl
    (not_lacking c.as_str-name.result.now (subject_data c.args.node) (members_view c.args.members.now.entries) c.args.location.now c.args.path.now (shown_of c.args.outcome.now) c.if-has_member.ensures)

pub returns : goal.returns
returns c = on_ok_weaker c.add_child_at.result (λ below.
    same_lacking (subject_data c.args.node) (object (members_view c.args.members.now.entries)) (ap (λ n. n ∷ []) c.as_str-name.ensures.value) c.as_str.ensures refl
    (one_lacking c.as_str-name.result.now (subject_data c.args.node) (members_view c.args.members.now.entries) c.as_str.result.now c.args.path.now c.if-has_member.ensures
    c.valid_empty-shown.ensures
    (adds_as (kind_of_required c.as_str-name.result) c.node.ensures (c.in_ok-mark_errored_by.ensures.added c.as_str.result.now c.args.path.now)) below))
    c.add_child_at.ensures
