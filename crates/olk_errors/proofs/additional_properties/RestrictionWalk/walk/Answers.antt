use Rattle.std.proofs.Common.{sym, ap, ◌∙◌}
use Rattle.olk_base.specs.Nodes.{subject_data}
use Rattle.olk_reports.specs.Paths.{path_at}
use Rattle.olk_tree.specs.Holdings.{held, schema_holds, not_empty_holds, not_empty_false_holds, with_required1_holds, with_patterns_holds, with_patterns_false_holds, with_both_holds, with_both_false_holds}
use Rattle.olk_errors.proofs.AdditionalHeld.{walks_as}
use Rattle.olk_errors.proofs.additional_properties.RestrictionWalk.walk.Goals as goal

pub returns-in-Schema : goal.returns-in-Schema
returns-in-Schema g c = walks_as g.R.RegexEngine.answers g.R.RegexEngine.costs g.N.Means.means g.N.Reports.first g.N.Reports.report (subject_data c.args.node) (path_at c.args.trail.now)
    (ap schema_holds c.deref.ensures ∙ ap held (sym c.in-Schema.is)) c.walk.ensures

pub returns-in-False : goal.returns-in-False
returns-in-False g c = walks_as g.R.RegexEngine.answers g.R.RegexEngine.costs g.N.Means.means g.N.Reports.first g.N.Reports.report (subject_data c.args.node) (path_at c.args.trail.now)
    (ap held (sym c.in-False.is)) c.walk-in-False.ensures

pub returns-in-NotEmpty : goal.returns-in-NotEmpty
returns-in-NotEmpty g c = walks_as g.R.RegexEngine.answers g.R.RegexEngine.costs g.N.Means.means g.N.Reports.first g.N.Reports.report (subject_data c.args.node) (path_at c.args.trail.now)
    (ap not_empty_holds c.deref-in-NotEmpty.ensures ∙ ap held (sym c.in-NotEmpty.is)) c.walk-in-NotEmpty.ensures

pub returns-in-NotEmptyFalse : goal.returns-in-NotEmptyFalse
returns-in-NotEmptyFalse g c = walks_as g.R.RegexEngine.answers g.R.RegexEngine.costs g.N.Means.means g.N.Reports.first g.N.Reports.report (subject_data c.args.node) (path_at c.args.trail.now)
    (ap not_empty_false_holds c.deref-in-NotEmptyFalse.ensures ∙ ap held (sym c.in-NotEmptyFalse.is)) c.walk-in-NotEmptyFalse.ensures

pub returns-in-NotEmptyFalseWithRequired1 : goal.returns-in-NotEmptyFalseWithRequired1
returns-in-NotEmptyFalseWithRequired1 g c = walks_as g.R.RegexEngine.answers g.R.RegexEngine.costs g.N.Means.means g.N.Reports.first g.N.Reports.report (subject_data c.args.node) (path_at c.args.trail.now)
    (ap with_required1_holds c.deref-in-NotEmptyFalseWithRequired1.ensures ∙ ap held (sym c.in-NotEmptyFalseWithRequired1.is)) c.walk-in-NotEmptyFalseWithRequired1.ensures

pub returns-in-WithPatterns : goal.returns-in-WithPatterns
returns-in-WithPatterns g c = walks_as g.R.RegexEngine.answers g.R.RegexEngine.costs g.N.Means.means g.N.Reports.first g.N.Reports.report (subject_data c.args.node) (path_at c.args.trail.now)
    (ap with_patterns_holds c.deref-in-WithPatterns.ensures ∙ ap held (sym c.in-WithPatterns.is)) c.walk-in-WithPatterns.ensures

pub returns-in-WithPatternsFalse : goal.returns-in-WithPatternsFalse
returns-in-WithPatternsFalse g c = walks_as g.R.RegexEngine.answers g.R.RegexEngine.costs g.N.Means.means g.N.Reports.first g.N.Reports.report (subject_data c.args.node) (path_at c.args.trail.now)
    (ap with_patterns_false_holds c.deref-in-WithPatternsFalse.ensures ∙ ap held (sym c.in-WithPatternsFalse.is)) c.walk-in-WithPatternsFalse.ensures

pub returns-in-WithPatternsNotEmpty : goal.returns-in-WithPatternsNotEmpty
returns-in-WithPatternsNotEmpty g c = walks_as g.R.RegexEngine.answers g.R.RegexEngine.costs g.N.Means.means g.N.Reports.first g.N.Reports.report (subject_data c.args.node) (path_at c.args.trail.now)
    (ap with_both_holds c.deref-in-WithPatternsNotEmpty.ensures ∙ ap held (sym c.in-WithPatternsNotEmpty.is)) c.walk-in-WithPatternsNotEmpty.ensures

pub returns-in-WithPatternsNotEmptyFalse : goal.returns-in-WithPatternsNotEmptyFalse
returns-in-WithPatternsNotEmptyFalse g c = walks_as g.R.RegexEngine.answers g.R.RegexEngine.costs g.N.Means.means g.N.Reports.first g.N.Reports.report (subject_data c.args.node) (path_at c.args.trail.now)
    (ap with_both_false_holds c.deref-in-WithPatternsNotEmptyFalse.ensures ∙ ap held (sym c.in-WithPatternsNotEmptyFalse.is)) c.walk-in-WithPatternsNotEmptyFalse.ensures
