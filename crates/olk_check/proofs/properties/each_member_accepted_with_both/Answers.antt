use Rattle.std.proofs.Common.{◌&&◌, [], ◌∷◌, sym, ap, ◌∙◌}
use Rattle.olk_spec.specs.Names.{is_empty}
use Rattle.olk_spec.specs.Accepts.{missing}
use Rattle.olk_tree.specs.Visited.{object_of}
use Rattle.olk_tree.proofs.Due.{name_next, no_name_next}
use Rattle.olk_check.proofs.Missing.{both_met}
use Rattle.olk_check.proofs.Present.{sought_on, sought_end}
use Rattle.olk_check.proofs.Together.{condition_and, condition_and_refused}
use Rattle.olk_check.proofs.Walks.{all_go_on, all_stop, all_end}
use Rattle.olk_check.proofs.properties.each_member_accepted_with_both.Goals as goal

pub returns-then-not-accepted_if_declared : goal.returns-then-not-accepted_if_declared
returns-then-not-accepted_if_declared g c = condition_and_refused (is_empty (missing (c.args.first.now ∷ c.args.second.now ∷ []) (object_of c.args.members.now.entries)))
    (all_stop c.loop-name.invariant.0 (name_next c.in-Some.ensures.steps c.as_str-name.ensures.value)
    (rw (← c.node_from-next.ensures) c.if-not-accepted_if_declared.ensures))

pub loop-name-preserved : goal.loop-name-preserved
loop-name-preserved g c =
    let next = name_next c.in-Some.ensures.steps c.as_str-name.ensures.value in (
      all_go_on c.loop-name.invariant.0 next
          (rw (← c.node_from-next.ensures) c.if-not-accepted_if_declared.ensures),
      sought_on _ c.loop-name.invariant.1 next c.is_met-has_first.ensures,
      sought_on _ c.loop-name.invariant.2 next c.is_met-has_second.ensures,
    )

pub returns-then-has_first : goal.returns-then-has_first
returns-then-has_first g c =
    let none = no_name_next c.in-None.ensures.steps.0 in
    condition_and (ap (λ b. b && c.loop-name.has_second) (sym c.if-has_first.true) ∙ both_met c.args.first.now c.args.second.now (sought_end c.loop-name.invariant.1 none)
    (sought_end c.loop-name.invariant.2 none))
    (all_end c.loop-name.invariant.0 none)

pub returns-else-has_first : goal.returns-else-has_first
returns-else-has_first g c =
    let none = no_name_next c.in-None.ensures.steps.0 in
    condition_and (c.if-has_first.false ∙ ap (λ b. b && c.loop-name.has_second) (sym c.if-has_first.false) ∙ both_met c.args.first.now c.args.second.now
    (sought_end c.loop-name.invariant.1 none) (sought_end c.loop-name.invariant.2 none))
    (all_end c.loop-name.invariant.0 none)
