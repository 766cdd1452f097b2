use Rattle.std.proofs.Common.{not, sym, ap}
use Rattle.olk_reports.proofs.Errors.{context_faults, kind_of_any_of}
use Rattle.olk_check.proofs.Asked.{only_then, answer_first, answer_then, verdict_of}
use Rattle.olk_errors.proofs.Own.{walks_own, own_past, any_of_own}
use Rattle.olk_errors.proofs.Sinks.{walks_nowhere}
use Rattle.olk_errors.proofs.any_of.SingleAnyOfWalk.walk.Goals as goal

pub returns-then-accepts : goal.returns-then-accepts
returns-then-accepts g c = own_past _ _ c.args.self.now.location _ c.if-accepts.ensures.only
    (λ u so. sym (verdict_of c.if-accepts.ensures so)) (λ u so. ap not (sym (verdict_of c.if-accepts.ensures so)))

pub returns-in_err-context : goal.returns-in_err-context
returns-in_err-context g c = walks_nowhere c.from_residual.ensures.0 (only_then c.if-accepts.ensures.only c.one_context.ensures.context)

pub returns : goal.returns
returns g c = let asked = c.if-accepts.ensures.only in let found = c.one_context.ensures.context in
    walks_own (only_then asked found) c.report.ensures
    (λ u so. any_of_own (context_faults c.in_ok-context.context) _ (c.in_ok-context.ensures.contexts u (answer_then asked found so)) _ c.as_str.ensures
    (sym (verdict_of c.if-accepts.ensures (answer_first asked found so))) (kind_of_any_of c.in_ok-context.context))
