use Rattle.std.proofs.Common.{sym, ◌∙◌, chars}
use Rattle.std.proofs.lemmas.Result.{IfOk-weaker}
use Rattle.olk_spec.specs.Literals.{literal}
use Rattle.olk_spec.proofs.LiteralForms.{literal-white, literal-suffix}
use Rattle.olk_base.proofs.Forms.{literal-anchored}
use Rattle.olk_base.proofs.analysis.scan_pattern.Goals as goal

pub returns-then-is_ascii_text : goal.returns-then-is_ascii_text
unfolding literal
returns-then-is_ascii_text c = sym (literal-white (chars c.args.pattern.now) (sym c.if-is_ascii_text.ensures))

pub returns-in-Some : goal.returns-in-Some
unfolding literal
returns-in-Some c =
    IfOk-weaker c.scan_anchored.result _ _
    (λ o e. e ∙ sym (literal-anchored (chars c.args.pattern.now) (chars c.in-Some.rest.now) (sym c.if-is_ascii_text.ensures) c.in-Some.ensures.cases)) c.scan_anchored.ensures

pub returns-in_default : goal.returns-in_default
unfolding literal
returns-in_default c =
    IfOk-weaker c.scan_suffix.result _ _ (λ o e. e ∙ sym (literal-suffix (chars c.args.pattern.now) (sym c.if-is_ascii_text.ensures) c.in_default.ensures.cases)) c.scan_suffix.ensures
