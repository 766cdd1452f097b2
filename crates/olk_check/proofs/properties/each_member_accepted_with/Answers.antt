use Rattle.std.proofs.Common.{[], ◌∷◌}
use Rattle.olk_spec.specs.Names.{is_empty}
use Rattle.olk_spec.specs.Accepts.{missing}
use Rattle.olk_tree.specs.Questions.{always}
use Rattle.olk_tree.specs.Visited.{object_of}
use Rattle.olk_tree.proofs.Due.{name_next, no_name_next}
use Rattle.olk_check.proofs.Missing.{one_met}
use Rattle.olk_check.proofs.Present.{sought_on, sought_end}
use Rattle.olk_check.proofs.Together.{and_condition}
use Rattle.olk_check.proofs.Walks.{both_stop, all_go_on, all_stop, all_end}
use Rattle.olk_check.proofs.properties.each_member_accepted_with.Goals as goal

pub returns-then-not-accepted_if_declared : goal.returns-then-not-accepted_if_declared
returns-then-not-accepted_if_declared g c = both_stop (always (is_empty (missing (c.args.required.now ∷ []) (object_of c.args.members.now.entries))))
    (all_stop c.loop-name.invariant.0 (name_next c.in-Some.ensures.steps c.as_str-name.ensures.value)
    (rw (← c.node_from-next.ensures) c.if-not-accepted_if_declared.ensures))

pub loop-name-preserved : goal.loop-name-preserved
loop-name-preserved g c =
    let next = name_next c.in-Some.ensures.steps c.as_str-name.ensures.value in (
      all_go_on c.loop-name.invariant.0 next
          (rw (← c.node_from-next.ensures) c.if-not-accepted_if_declared.ensures),
      sought_on _ c.loop-name.invariant.1 next c.is_met-met.ensures,
    )

pub returns : goal.returns
returns g c =
    let none = no_name_next c.in-None.ensures.steps.0 in
    and_condition (one_met c.args.required.now (sought_end c.loop-name.invariant.1 none)) (all_end c.loop-name.invariant.0 none)
