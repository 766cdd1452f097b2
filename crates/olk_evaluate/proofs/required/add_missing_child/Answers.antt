use Rattle.std.proofs.Common.{not, [], ◌∷◌, refl}
use Rattle.std.proofs.lemmas.Result.{on_ok_weaker}
use Rattle.serde_json.specs.Data.{object}
use Rattle.serde_json.specs.View.{members_view}
use Rattle.olk_base.specs.Nodes.{subject_data}
use Rattle.olk_spec.specs.Faults.{fault, Required}
use Rattle.olk_spec.specs.Schemas.{has}
use Rattle.olk_reports.specs.Evaluations.{shown_of}
use Rattle.olk_evaluate.proofs.OwnErrors.{adds_both, none_lacking, one_of_two_lacking, same_lacking, some_lacking, two_missing}
use Rattle.olk_evaluate.proofs.required.add_missing_child.Goals as goal

pub returns-then-has_member : goal.returns-then-has_member
returns-then-has_member g c = same_lacking (subject_data c.args.node) (object (members_view c.args.members.now.entries)) (λ i. c.as_str-first.ensures.value i ∷ c.as_str-second.ensures.value i ∷ []) refl refl
    (none_lacking (c.as_str-first.result.now ∷ c.as_str-second.result.now ∷ []) (subject_data c.args.node) (object (members_view c.args.members.now.entries)) c.args.keyword.now.required_location
    c.args.path.now (shown_of c.args.outcome.now)
    (one_of_two_lacking (members_view c.args.members.now.entries) c.as_str-first.result.now c.as_str-second.result.now c.has_member.ensures c.has_member-2.ensures c.if-has_member.true))

pub returns : goal.returns
returns g c =
    let members = object (members_view c.args.members.now.entries) in
    let location = c.as_str.result.now in
    let path = c.args.path.now in
    on_ok_weaker c.add_child_at.result (λ below.
    same_lacking (subject_data c.args.node) members (λ i. c.as_str-first.ensures.value i ∷ c.as_str-second.ensures.value i ∷ []) c.as_str.ensures refl
    (some_lacking (c.as_str-first.result.now ∷ c.as_str-second.result.now ∷ []) (subject_data c.args.node) members location path (one_of_two_lacking (members_view c.args.members.now.entries) c.as_str-first.result.now c.as_str-second.result.now c.has_member.ensures c.has_member-2.ensures c.if-has_member.false)
    c.valid_empty-shown.ensures
    (two_missing (λ n. fault (Required n) (subject_data c.args.node) path location) (not (has c.as_str-first.result.now members)) (not (has c.as_str-second.result.now members))
    c.as_str-first.result.now c.as_str-second.result.now (adds_both (c.in_ok-add_error_if_missing.ensures location path) (c.in_ok-add_error_if_missing-2.ensures location path)))
    below))
    c.add_child_at.ensures
