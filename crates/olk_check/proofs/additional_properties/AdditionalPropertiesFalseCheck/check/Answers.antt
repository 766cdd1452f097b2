use Rattle.std.proofs.Common.{◌∙◌, arith}
use Rattle.olk_check.proofs.Asked.{settles, unasked}
use Rattle.olk_check.proofs.Beside.{no_member}
use Rattle.olk_check.proofs.additional_properties.AdditionalPropertiesFalseCheck.check.Goals as goal

pub returns : goal.returns
returns g c = settles _ c.is_no_member.result (unasked c.args._ctx.now c.is_no_member.result) (λ u e. c.is_no_member.ensures ∙ no_member (g.A.Asked.stands_for c.args.asked) u) (λ k u e. omega arith)
