use Rattle.std.proofs.Common.{sym, ap, ◌∙◌}
use Rattle.serde_json.specs.View.{view}
use Rattle.olk_base.specs.Lawful.{Asking}
use Rattle.olk_spec.specs.Meaning.{accepts}
use Rattle.olk_base.specs.Kit.{world}
use Rattle.olk_measure.proofs.asking.has_no_first.Goals as goal

pub returns-in-Err-Invalid : goal.returns-in-Err-Invalid
returns-in-Err-Invalid g c S stands =
    let told = rw c.in-Err-Invalid.field-0-is at (c.in-Err-Invalid.ensures.invalid S stands) in
    sym told.verdict ∙ ap (λ (a : Asking). accepts (world g.K.Leaf g.R.RegexEngine) a.answer S (view c.args.instance.now)) c.new-ctx.ensures
