use Rattle.std.proofs.Common.{refl, sym, ◌∙◌}
use Rattle.std.proofs.Math.Bool.{or-false}
use Rattle.olk_tree.proofs.Due.{name_next, no_name_next}
use Rattle.olk_check.proofs.Present.{sought_on, sought_end, sought_met}
use Rattle.olk_check.proofs.required.is_present.Goals as goal

pub returns-then-is_same_text : goal.returns-then-is_same_text
returns-then-is_same_text c =
    sym (sought_met (sought_on _ c.loop-key.invariant (name_next c.in-Some.ensures.steps c.as_str.ensures.value) (c.if-is_same_text.ensures ∙ sym (or-false _))) refl)

pub loop-key-preserved : goal.loop-key-preserved
loop-key-preserved c = sought_on _ c.loop-key.invariant (name_next c.in-Some.ensures.steps c.as_str.ensures.value) (c.if-is_same_text.ensures ∙ sym (or-false _))

pub returns : goal.returns
returns c = sought_end c.loop-key.invariant (no_name_next c.in-None.ensures.steps.0)
