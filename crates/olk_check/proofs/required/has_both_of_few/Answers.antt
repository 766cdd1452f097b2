use Rattle.std.proofs.Common.{◌≡◌, ◌&&◌, false, ap, sym, ◌∙◌}
use Rattle.std.proofs.Math.Bool.{and-false}
use Rattle.olk_tree.proofs.Due.{name_next}
use Rattle.olk_check.proofs.Present.{sought_on, sought_met}
use Rattle.olk_check.proofs.required.has_both_of_few.Goals as goal
use Rattle.olk_check.proofs.required.has_both_of_few.Goals.{else-has_first-via-then-has_first+else-has_second, else-has_first-via-else-has_first}

pub returns-then-has_second : goal.returns-then-has_second
returns-then-has_second c =
    let next = name_next c.in-Some.ensures.steps c.as_str-key.ensures.value in
    let first = sought_met (sought_on _ c.loop-key.invariant.0 next c.is_met-has_first.ensures) c.if-has_first.true in
    let second = sought_met (sought_on _ c.loop-key.invariant.1 next c.is_met-has_second.ensures) c.if-has_second.true in
    λ i. sym first i && sym second i

pub loop-key-preserved : goal.loop-key-preserved
loop-key-preserved c =
    let next = name_next c.in-Some.ensures.steps c.as_str-key.ensures.value in
    let not_both : (c.is_met-has_first.result && c.is_met-has_second.result) ≡ false = elim c.else-has_first.branch [
      | else-has_first-via-then-has_first+else-has_second w ↦ ap (λ b. c.is_met-has_first.result && b) w.if-has_second.false ∙ and-false c.is_met-has_first.result
      | else-has_first-via-else-has_first w ↦ ap (λ b. b && c.is_met-has_second.result) w.if-has_first.false
    ] in
    (sought_on _ c.loop-key.invariant.0 next c.is_met-has_first.ensures, sought_on _ c.loop-key.invariant.1 next c.is_met-has_second.ensures, not_both)
