use Rattle.std.proofs.Common.{sym, ap, option_to_list, ◌∙◌}
use Rattle.std.specs.Option.{option_copied}
use Rattle.olk_check.proofs.Asked.{only_same}
use Rattle.olk_errors.proofs.Due.{past_none}
use Rattle.olk_errors.proofs.property_dependencies.walk_choice.Goals as goal

pub returns-in-None : goal.returns-in-None
returns-in-None g c = past_none g.N.Means.means g.N.Reports.first g.N.Reports.report _ _ (only_same c.args.ctx.now)
    (λ u so. sym (sym (ap (λ o. option_to_list (option_copied o)) c.in-None.is) ∙ c.chosen_by.ensures))
