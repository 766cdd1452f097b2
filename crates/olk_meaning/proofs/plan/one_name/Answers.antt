use Rattle.std.proofs.Common.{length, ap, ◌∙◌}
use Rattle.olk_meaning.proofs.Fused.{not_one_item}
use Rattle.olk_meaning.proofs.plan.one_name.Goals as goal

pub returns-then-items-ne1 : goal.returns-then-items-ne1
returns-then-items-ne1 c =
    not_one_item c.args.value c.in_ok-value.field-0 c.in_ok-value.was c.in_ok-as_array.field-0.now.items c.in_ok-as_array.ensures
    (λ e. c.if-items-ne1.true (ap length c.as_slice-items.ensures.value ∙ e))
