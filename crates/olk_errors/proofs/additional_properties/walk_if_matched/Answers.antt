use Rattle.std.proofs.Common.{◌∙◌}
use Rattle.serde_json.specs.View.{view}
use Rattle.olk_base.specs.Compiled.{pattern_answers, pattern_costs}
use Rattle.olk_spec.specs.Names.{◌//◌}
use Rattle.olk_reports.specs.Paths.{path_at}
use Rattle.olk_tree.specs.Tables.{known_says}
use Rattle.olk_errors.proofs.Additional.{if_matched_is, one_alone}
use Rattle.olk_errors.proofs.Due.{past_none}
use Rattle.olk_errors.proofs.Sinks.{walks_same, walks_asked, walks_left, walks_on}
use Rattle.olk_errors.specs.Outcomes.{of_node}
use Rattle.olk_check.proofs.Asked.{verdict_of, answer_first}
use Rattle.olk_tree.specs.AdditionalAgreement.{match_is_said}
use Rattle.olk_errors.proofs.additional_properties.walk_if_matched.Goals as goal

pub returns-then-not-matches_unless_known-clause-matches : goal.returns-then-not-matches_unless_known-clause-matches
returns-then-not-matches_unless_known-clause-matches g c u so = verdict_of c.if-not-matches_unless_known.ensures so ∙ match_is_said u (pattern_costs g.R.RegexEngine.costs c.args.entry.now.0) (known_says c.args.known)
    (pattern_answers g.R.RegexEngine.answers c.args.entry.now.0 c.args.name.now)

pub returns-then-not-matches_unless_known-clause-walk : goal.returns-then-not-matches_unless_known-clause-walk
returns-then-not-matches_unless_known-clause-walk g c = past_none g.N.Means.means g.N.Reports.first g.N.Reports.report _ _ c.if-not-matches_unless_known.ensures.only
    (λ u so. if_matched_is u (pattern_costs g.R.RegexEngine.costs c.args.entry.now.0) (known_says c.args.known)
    (pattern_answers g.R.RegexEngine.answers c.args.entry.now.0 c.args.name.now) c.args.entry.now.1 (verdict_of c.if-not-matches_unless_known.ensures so))

pub returns-in_err-walk_below-clause-walk : goal.returns-in_err-walk_below-clause-walk
returns-in_err-walk_below-clause-walk g c = walks_left c.from_residual.ensures.0
    (walks_same (λ u so. one_alone g.N.Means.means g.N.Reports.first g.N.Reports.report _ _ u
    (if_matched_is u (pattern_costs g.R.RegexEngine.costs c.args.entry.now.0) (known_says c.args.known)
    (pattern_answers g.R.RegexEngine.answers c.args.entry.now.0 c.args.name.now) c.args.entry.now.1
    (verdict_of c.if-not-matches_unless_known.ensures (answer_first c.if-not-matches_unless_known.ensures.only c.in_err-walk_below.ensures.only so))))
    (walks_asked (λ u. of_node g.N.Means.means g.N.Reports.first g.N.Reports.report u c.args.entry.now.1 (view c.args.value.now)
    (path_at c.args.trail.now // c.args.name.now)) c.if-not-matches_unless_known.ensures.only c.in_err-walk_below.ensures))

pub returns-clause-matches : goal.returns-clause-matches
returns-clause-matches g c u so = verdict_of c.if-not-matches_unless_known.ensures (answer_first c.if-not-matches_unless_known.ensures.only c.in_ok-walk_below.ensures.only so)
    ∙ match_is_said u (pattern_costs g.R.RegexEngine.costs c.args.entry.now.0) (known_says c.args.known)
    (pattern_answers g.R.RegexEngine.answers c.args.entry.now.0 c.args.name.now)

pub returns-clause-walk : goal.returns-clause-walk
returns-clause-walk g c = walks_same (λ u so. one_alone g.N.Means.means g.N.Reports.first g.N.Reports.report _ _ u
    (if_matched_is u (pattern_costs g.R.RegexEngine.costs c.args.entry.now.0) (known_says c.args.known)
    (pattern_answers g.R.RegexEngine.answers c.args.entry.now.0 c.args.name.now) c.args.entry.now.1
    (verdict_of c.if-not-matches_unless_known.ensures (answer_first c.if-not-matches_unless_known.ensures.only c.in_ok-walk_below.ensures.only so))))
    (walks_on (walks_asked (λ u. of_node g.N.Means.means g.N.Reports.first g.N.Reports.report u c.args.entry.now.1 (view c.args.value.now)
    (path_at c.args.trail.now // c.args.name.now)) c.if-not-matches_unless_known.ensures.only c.in_ok-walk_below.ensures))
