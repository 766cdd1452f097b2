use Rattle.std.proofs.Common.{ap, option_copied, option_to_list}
use Rattle.olk_check.proofs.Asked.{only_same}
use Rattle.olk_errors.proofs.Additional.{one_alone}
use Rattle.olk_errors.proofs.Due.{past_none}
use Rattle.olk_errors.proofs.Sinks.{walks_same, walks_left, walks_on}
use Rattle.olk_errors.proofs.additional_properties.walk_rest.Goals as goal

pub returns-in_err-walk_below-in-Some-clause-walk : goal.returns-in_err-walk_below-in-Some-clause-walk
returns-in_err-walk_below-in-Some-clause-walk g c = walks_left c.from_residual.ensures.0
    (walks_same (λ u so. one_alone g.N.Means.means g.N.Reports.first g.N.Reports.report _ _ u (ap (λ r. option_to_list (option_copied r)) c.in-Some.is)) c.in_err-walk_below-in-Some.ensures)

pub returns-in_ok-walk_below-in-Some-clause-walk : goal.returns-in_ok-walk_below-in-Some-clause-walk
returns-in_ok-walk_below-in-Some-clause-walk g c = walks_on (walks_same (λ u so. one_alone g.N.Means.means g.N.Reports.first g.N.Reports.report _
    _ u (ap (λ r. option_to_list (option_copied r)) c.in-Some.is)) c.in_ok-walk_below-in-Some.ensures)

pub returns-in-None-clause-walk : goal.returns-in-None-clause-walk
returns-in-None-clause-walk g c = past_none g.N.Means.means g.N.Reports.first g.N.Reports.report _ _ (only_same c.args.ctx.now)
    (λ u so. ap (λ r. option_to_list (option_copied r)) c.in-None.is)
