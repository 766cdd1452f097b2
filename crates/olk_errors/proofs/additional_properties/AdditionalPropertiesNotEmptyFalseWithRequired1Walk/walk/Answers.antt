use Rattle.std.proofs.Common.{[], ◌∷◌, refl, ap}
use Rattle.olk_base.specs.Nodes.{subject_data}
use Rattle.olk_reports.specs.Paths.{path_at}
use Rattle.olk_tree.specs.Holdings.{with_required1_holds}
use Rattle.olk_check.proofs.Asked.{only_same}
use Rattle.olk_errors.proofs.AdditionalHeld.{no_regex_answers, no_regex_costs, held_unasked, stopped_before_wanted, then_wanted}
use Rattle.olk_errors.proofs.Sinks.{ends_same, walks_past}
use Rattle.olk_errors.specs.Outcomes.{of_names}
use Rattle.olk_errors.proofs.additional_properties.AdditionalPropertiesNotEmptyFalseWithRequired1Walk.walk.Goals as goal

pub returns-in_default : goal.returns-in_default
returns-in_default g c = walks_past (only_same c.args.ctx.now)
    (λ u so. held_unasked no_regex_answers no_regex_costs g.N.Means.means g.N.Reports.first g.N.Reports.report u (with_required1_holds c.args.self.now)
    (subject_data c.args.node) (path_at c.args.trail.now) refl c.in_default.ensures)

pub returns-in_err-walk_members : goal.returns-in_err-walk_members
returns-in_err-walk_members g c = stopped_before_wanted no_regex_answers no_regex_costs g.N.Means.means g.N.Reports.first g.N.Reports.report (subject_data c.args.node) (path_at c.args.trail.now)
    (with_required1_holds c.args.self.now) c.sides-sides.ensures refl c.from_residual.ensures.0 c.in_err-walk_members.ensures

pub returns : goal.returns
returns g c = then_wanted no_regex_answers no_regex_costs g.N.Means.means g.N.Reports.first g.N.Reports.report (subject_data c.args.node) (path_at c.args.trail.now)
    (with_required1_holds c.args.self.now) c.sides-sides.ensures refl c.in_ok-walk_members.ensures
    (λ u. ends_same (ap (λ n. of_names (n ∷ []) (subject_data c.args.node) c.args.self.now.required_location (path_at c.args.trail.now)) c.as_str-name.ensures.value) c.report_if_missing.ensures)
