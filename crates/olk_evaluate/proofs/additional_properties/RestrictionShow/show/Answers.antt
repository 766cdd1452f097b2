use Rattle.std.proofs.Common.{sym, ap, ◌∙◌}
use Rattle.olk_base.specs.Nodes.{subject_data}
use Rattle.olk_tree.specs.Holdings.{held, schema_holds, not_empty_holds, not_empty_false_holds, with_required1_holds, with_patterns_holds, with_patterns_false_holds, with_both_holds, with_both_false_holds}
use Rattle.olk_evaluate.proofs.Additional.{shows_held}
use Rattle.olk_evaluate.proofs.additional_properties.RestrictionShow.show.Goals as goal

pub returns-in-Schema : goal.returns-in-Schema
returns-in-Schema g c = shows_held g.R.RegexEngine.answers g.R.RegexEngine.costs g.N.Show.tree g.N.Means.means (subject_data c.args.node) c.show.new.outcome (ap schema_holds c.deref.ensures ∙ ap held (sym c.in-Schema.is)) c.show.ensures

pub returns-in-False : goal.returns-in-False
returns-in-False g c = shows_held g.R.RegexEngine.answers g.R.RegexEngine.costs g.N.Show.tree g.N.Means.means (subject_data c.args.node) c.show-in-False.new.outcome (ap held (sym c.in-False.is)) c.show-in-False.ensures

pub returns-in-NotEmpty : goal.returns-in-NotEmpty
returns-in-NotEmpty g c = shows_held g.R.RegexEngine.answers g.R.RegexEngine.costs g.N.Show.tree g.N.Means.means (subject_data c.args.node) c.show-in-NotEmpty.new.outcome (ap not_empty_holds c.deref-in-NotEmpty.ensures ∙ ap held (sym c.in-NotEmpty.is)) c.show-in-NotEmpty.ensures

pub returns-in-NotEmptyFalse : goal.returns-in-NotEmptyFalse
returns-in-NotEmptyFalse g c = shows_held g.R.RegexEngine.answers g.R.RegexEngine.costs g.N.Show.tree g.N.Means.means (subject_data c.args.node) c.show-in-NotEmptyFalse.new.outcome (ap not_empty_false_holds c.deref-in-NotEmptyFalse.ensures ∙ ap held (sym c.in-NotEmptyFalse.is)) c.show-in-NotEmptyFalse.ensures

pub returns-in-NotEmptyFalseWithRequired1 : goal.returns-in-NotEmptyFalseWithRequired1
returns-in-NotEmptyFalseWithRequired1 g c = shows_held g.R.RegexEngine.answers g.R.RegexEngine.costs g.N.Show.tree g.N.Means.means (subject_data c.args.node) c.show-in-NotEmptyFalseWithRequired1.new.outcome (ap with_required1_holds c.deref-in-NotEmptyFalseWithRequired1.ensures ∙ ap held (sym c.in-NotEmptyFalseWithRequired1.is)) c.show-in-NotEmptyFalseWithRequired1.ensures

pub returns-in-WithPatterns : goal.returns-in-WithPatterns
returns-in-WithPatterns g c = shows_held g.R.RegexEngine.answers g.R.RegexEngine.costs g.N.Show.tree g.N.Means.means (subject_data c.args.node) c.show-in-WithPatterns.new.outcome (ap with_patterns_holds c.deref-in-WithPatterns.ensures ∙ ap held (sym c.in-WithPatterns.is)) c.show-in-WithPatterns.ensures

pub returns-in-WithPatternsFalse : goal.returns-in-WithPatternsFalse
returns-in-WithPatternsFalse g c = shows_held g.R.RegexEngine.answers g.R.RegexEngine.costs g.N.Show.tree g.N.Means.means (subject_data c.args.node) c.show-in-WithPatternsFalse.new.outcome (ap with_patterns_false_holds c.deref-in-WithPatternsFalse.ensures ∙ ap held (sym c.in-WithPatternsFalse.is)) c.show-in-WithPatternsFalse.ensures

pub returns-in-WithPatternsNotEmpty : goal.returns-in-WithPatternsNotEmpty
returns-in-WithPatternsNotEmpty g c = shows_held g.R.RegexEngine.answers g.R.RegexEngine.costs g.N.Show.tree g.N.Means.means (subject_data c.args.node) c.show-in-WithPatternsNotEmpty.new.outcome (ap with_both_holds c.deref-in-WithPatternsNotEmpty.ensures ∙ ap held (sym c.in-WithPatternsNotEmpty.is)) c.show-in-WithPatternsNotEmpty.ensures

pub returns-in-WithPatternsNotEmptyFalse : goal.returns-in-WithPatternsNotEmptyFalse
returns-in-WithPatternsNotEmptyFalse g c = shows_held g.R.RegexEngine.answers g.R.RegexEngine.costs g.N.Show.tree g.N.Means.means (subject_data c.args.node) c.show-in-WithPatternsNotEmptyFalse.new.outcome (ap with_both_false_holds c.deref-in-WithPatternsNotEmptyFalse.ensures ∙ ap held (sym c.in-WithPatternsNotEmptyFalse.is)) c.show-in-WithPatternsNotEmptyFalse.ensures
