use Rattle.std.proofs.Common.{sym, ◌∙◌}
use Rattle.olk_reports.proofs.Paths.{of_ok, plain_below}
use Rattle.olk_reports.proofs.trail.push_plain.Goals as goal

pub returns : goal.returns
returns c pushed =
    plain_below c.args.text.now.bytes c.args.segment.now (sym c.is_plain.ensures ∙ c.if-not-is_plain.false)
    (of_ok c.try_push_str.result (c.if-is_err.ensures.negation) c.try_push_str.ensures.ok) (of_ok c.try_push_str-2.result (sym c.is_ok.ensures.value ∙ pushed) c.try_push_str-2.ensures.ok)
