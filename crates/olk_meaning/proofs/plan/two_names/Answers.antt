use Rattle.std.proofs.Common.{length, ap, ◌∙◌, arith}
use Rattle.std.proofs.lemmas.Grind.{common_steps}
use Rattle.olk_meaning.proofs.Fused.{not_two_items}
use Rattle.olk_meaning.proofs.plan.two_names.Goals as goal

pub returns-then-items-ne2 : goal.returns-then-items-ne2
returns-then-items-ne2 c =
    not_two_items c.args.value c.in_ok-value.field-0 c.in_ok-value.was c.in_ok-as_array.field-0.now.items c.in_ok-as_array.ensures
    (λ e. c.if-items-ne2.true (ap length c.as_slice-items.ensures.value ∙ e))

pub returns-in_err-as_array : goal.returns-in_err-as_array
returns-in_err-as_array c = grind (arith, common_steps)

pub returns-in_err-first : goal.returns-in_err-first
returns-in_err-first c = grind (arith, common_steps)

pub returns-in_err-second : goal.returns-in_err-second
returns-in_err-second c = grind (arith, common_steps)

pub returns-then-eq : goal.returns-then-eq
returns-then-eq c = grind (arith, common_steps)

pub returns : goal.returns
returns c = grind (arith, common_steps)
