use Rattle.std.proofs.Common.{Some, false, [], ◌∷◌, sym, ◌∙◌}
use Rattle.olk_spec.specs.Names.{is_empty}
use Rattle.olk_spec.specs.Accepts.{missing}
use Rattle.olk_tree.specs.Questions.{always}
use Rattle.olk_tree.specs.Visited.{object_of}
use Rattle.olk_tree.proofs.Due.{name_next, no_name_next}
use Rattle.olk_check.proofs.Asked.{unasked}
use Rattle.olk_check.proofs.Deferred.{held_more, held_go_on, held_stop, held_end, held_refused}
use Rattle.olk_check.proofs.Missing.{one_met}
use Rattle.olk_check.proofs.Present.{sought_on, sought_end}
use Rattle.olk_check.proofs.additional_properties.each_declared_with.Goals as goal

pub returns-in_default : goal.returns-in_default
returns-in_default g c =
    held_stop c.loop-name.invariant.0 (name_next c.in-Some.ensures.steps c.as_str-name.ensures.value) (always (is_empty (missing (c.args.required.now ∷ []) (object_of c.args.members.now.entries))))
    (rw (← c.node_from-next.ensures, c.in_default.is) (unasked c.loop-name.ctx false))

pub loop-name-preserved-then-not-is_full : goal.loop-name-preserved-then-not-is_full
loop-name-preserved-then-not-is_full g c =
    let next = name_next c.in-Some.ensures.steps c.as_str-name.ensures.value in (
      held_more c.loop-name.invariant.0 next (Some (c.in-Some-declared.subschema, c.in-Some.value))
          (rw (← c.node_from-next.ensures, c.in-Some-declared.is)) c.push.ensures.items,
      sought_on _ c.loop-name.invariant.1 next c.is_met-met.ensures,
    )

pub returns-then-not-check : goal.returns-then-not-check
returns-then-not-check g c =
    held_stop c.loop-name.invariant.0 (name_next c.in-Some.ensures.steps c.as_str-name.ensures.value) (always (is_empty (missing (c.args.required.now ∷ []) (object_of c.args.members.now.entries))))
    (rw (← c.node_from-next.ensures, c.in-Some-declared.is) c.if-not-check.ensures)

pub loop-name-preserved : goal.loop-name-preserved
loop-name-preserved g c =
    let next = name_next c.in-Some.ensures.steps c.as_str-name.ensures.value in (
      held_go_on c.loop-name.invariant.0 next (rw (← c.node_from-next.ensures, c.in-Some-declared.is) c.if-not-check.ensures),
      sought_on _ c.loop-name.invariant.1 next c.is_met-met.ensures,
    )

pub returns-then-met : goal.returns-then-met
returns-then-met g c =
    let none = no_name_next c.in-None.ensures.steps.0 in
    held_end c.loop-name.invariant.0 none c.deref.ensures.0 c.held_accept.ensures (sym (one_met c.args.required.now (sought_end c.loop-name.invariant.1 none)) ∙ c.if-met.true)

pub returns-else-met : goal.returns-else-met
returns-else-met g c =
    let none = no_name_next c.in-None.ensures.steps.0 in
    held_refused c.loop-name.invariant.0 (one_met c.args.required.now (sought_end c.loop-name.invariant.1 none)) c.if-met.false
