use Rattle.std.proofs.Common.{ℕ, ap, option_map}
use Rattle.olk_check.proofs.Asked.{only_same}
use Rattle.olk_errors.proofs.Due.{past_none}
use Rattle.olk_errors.specs.Outcomes.{declared_nodes}
use Rattle.olk_errors.proofs.additional_properties.walk_declared.Goals as goal

pub returns-in-None : goal.returns-in-None
returns-in-None g c = past_none g.N.Means.means g.N.Reports.first g.N.Reports.report _ _ (only_same c.args.ctx.now)
    (λ u so. ap (λ d. declared_nodes (option_map {U = ℕ × g.row.N.Denot} (λ f. (f.0, f.1.now)) d)) c.in-None.is)
