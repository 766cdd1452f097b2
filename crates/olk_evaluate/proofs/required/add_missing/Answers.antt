use Rattle.std.proofs.Common.{map, subst}
use Rattle.serde_json.specs.View.{members_view}
use Rattle.olk_base.specs.Nodes.{subject_data}
use Rattle.olk_spec.specs.Faults.{fault, Required}
use Rattle.olk_spec.specs.Accepts.{missing}
use Rattle.olk_reports.specs.Evaluations.{AddsErrors, shown_of}
use Rattle.olk_tree.specs.Maps.{texts_of}
use Rattle.olk_tree.proofs.Members_met.{object_is}
use Rattle.olk_evaluate.proofs.OwnErrors.{errors_start, errors_more, errors_end, lacks_none, missing_at, missing_end}
use Rattle.olk_evaluate.proofs.required.add_missing.Goals as goal

pub returns-in-None : goal.returns-in-None
returns-in-None c P Q = lacks_none (λ n. fault (Required n) (subject_data c.args.node) Q P) (texts_of c.args.required.now.required.items)
    (subject_data c.args.node) (shown_of c.args.outcome.now) c.in-None.ensures

pub loop-name-init : goal.loop-name-init
loop-name-init c P Q = errors_start

pub loop-name-preserved : goal.loop-name-preserved
loop-name-preserved c P Q = errors_more (c.loop-name.invariant P Q)
    (missing_at (members_view c.in-Some.members.now.entries) (λ n. fault (Required n) (subject_data c.args.node) Q P) c.args.required.now.required.items
    c.deref-name-items.result.now c.loop-name.name-index c.deref-name-items.ensures.value c.name-item.is c.loop-name-test.true c.as_str.ensures.value)
    (c.in_ok-add_error_if_missing-in-Some.ensures P Q)

pub returns-after-loop-name : goal.returns-after-loop-name
returns-after-loop-name c P Q = subst (λ w. AddsErrors (map (λ n. fault (Required n) (subject_data c.args.node) Q P) (missing (texts_of c.args.required.now.required.items) w))
    (shown_of c.args.outcome.now) (shown_of c.loop-name.outcome)) (object_is (subject_data c.args.node) (members_view c.in-Some.members.now.entries) c.in-Some.ensures)
    (errors_end (c.loop-name.invariant P Q) (missing_end (members_view c.in-Some.members.now.entries) (λ n. fault (Required n) (subject_data c.args.node) Q P)
    c.args.required.now.required.items c.deref-name-items.result.now c.loop-name.name-index c.deref-name-items.ensures.value c.loop-name-test.false))
