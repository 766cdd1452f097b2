use Rattle.olk_errors.proofs.OneOf.{one_of_own, one_of_nothing}
use Rattle.olk_errors.proofs.Own.{walks_own}
use Rattle.olk_errors.proofs.Sinks.{walks_past, walks_nowhere}
use Rattle.olk_errors.proofs.one_of.OneOfWalk.walk.Goals as goal

pub returns-in_err-kind : goal.returns-in_err-kind
returns-in_err-kind g c = walks_nowhere c.from_residual.ensures.0 c.one_of_kind.ensures.context

pub returns-in-Some : goal.returns-in-Some
returns-in-Some g c = walks_own c.one_of_kind.ensures.context c.report.ensures
    (λ u so. one_of_own _ _ _ c.args.self.now.location _ c.in-Some.is (c.in_ok-kind.ensures.kind u so) c.as_str.ensures)

pub returns-in-None : goal.returns-in-None
returns-in-None g c = walks_past c.one_of_kind.ensures.context
    (λ u so. one_of_nothing _ _ _ c.args.self.now.location _ c.in-None.is (c.in_ok-kind.ensures.kind u so))
