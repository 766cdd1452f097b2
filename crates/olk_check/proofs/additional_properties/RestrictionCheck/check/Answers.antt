use Rattle.std.proofs.Common.{sym, ap, subst, ◌∙◌}
use Rattle.olk_tree.specs.AdditionalProperties.{additional_properties_answers}
use Rattle.olk_tree.specs.Holdings.{held, schema_holds, not_empty_holds, not_empty_false_holds, with_required1_holds, with_patterns_holds, with_patterns_false_holds, with_both_holds, with_both_false_holds}
use Rattle.olk_check.specs.Asks.{Asks}
use Rattle.olk_check.proofs.additional_properties.RestrictionCheck.check.Goals as goal

pub returns-in-Schema : goal.returns-in-Schema
returns-in-Schema g c =
    subst (λ h. Asks c.args.ctx.now c.check.new.ctx ((additional_properties_answers g.R.RegexEngine.answers g.R.RegexEngine.costs h).means g.N.Means.means (g.A.Asked.stands_for c.args.asked)) c.check.result)
    (ap schema_holds c.deref.ensures ∙ ap held (sym c.in-Schema.is)) c.check.ensures

pub returns-in-False : goal.returns-in-False
returns-in-False g c =
    subst (λ h. Asks c.args.ctx.now c.check-in-False.new._ctx ((additional_properties_answers g.R.RegexEngine.answers g.R.RegexEngine.costs h).means g.N.Means.means (g.A.Asked.stands_for c.args.asked)) c.check-in-False.result)
    (ap held (sym c.in-False.is)) c.check-in-False.ensures

pub returns-in-NotEmpty : goal.returns-in-NotEmpty
returns-in-NotEmpty g c =
    subst (λ h. Asks c.args.ctx.now c.check-in-NotEmpty.new.ctx ((additional_properties_answers g.R.RegexEngine.answers g.R.RegexEngine.costs h).means g.N.Means.means (g.A.Asked.stands_for c.args.asked)) c.check-in-NotEmpty.result)
    (ap not_empty_holds c.deref-in-NotEmpty.ensures ∙ ap held (sym c.in-NotEmpty.is)) c.check-in-NotEmpty.ensures

pub returns-in-NotEmptyFalse : goal.returns-in-NotEmptyFalse
returns-in-NotEmptyFalse g c =
    subst (λ h. Asks c.args.ctx.now c.check-in-NotEmptyFalse.new.ctx ((additional_properties_answers g.R.RegexEngine.answers g.R.RegexEngine.costs h).means g.N.Means.means (g.A.Asked.stands_for c.args.asked)) c.check-in-NotEmptyFalse.result)
    (ap not_empty_false_holds c.deref-in-NotEmptyFalse.ensures ∙ ap held (sym c.in-NotEmptyFalse.is)) c.check-in-NotEmptyFalse.ensures

pub returns-in-NotEmptyFalseWithRequired1 : goal.returns-in-NotEmptyFalseWithRequired1
returns-in-NotEmptyFalseWithRequired1 g c =
    subst (λ h. Asks c.args.ctx.now c.check-in-NotEmptyFalseWithRequired1.new.ctx ((additional_properties_answers g.R.RegexEngine.answers g.R.RegexEngine.costs h).means g.N.Means.means (g.A.Asked.stands_for c.args.asked)) c.check-in-NotEmptyFalseWithRequired1.result)
    (ap with_required1_holds c.deref-in-NotEmptyFalseWithRequired1.ensures ∙ ap held (sym c.in-NotEmptyFalseWithRequired1.is)) c.check-in-NotEmptyFalseWithRequired1.ensures

pub returns-in-WithPatterns : goal.returns-in-WithPatterns
returns-in-WithPatterns g c =
    subst (λ h. Asks c.args.ctx.now c.check-in-WithPatterns.new.ctx ((additional_properties_answers g.R.RegexEngine.answers g.R.RegexEngine.costs h).means g.N.Means.means (g.A.Asked.stands_for c.args.asked)) c.check-in-WithPatterns.result)
    (ap with_patterns_holds c.deref-in-WithPatterns.ensures ∙ ap held (sym c.in-WithPatterns.is)) c.check-in-WithPatterns.ensures

pub returns-in-WithPatternsFalse : goal.returns-in-WithPatternsFalse
returns-in-WithPatternsFalse g c =
    subst (λ h. Asks c.args.ctx.now c.check-in-WithPatternsFalse.new.ctx ((additional_properties_answers g.R.RegexEngine.answers g.R.RegexEngine.costs h).means g.N.Means.means (g.A.Asked.stands_for c.args.asked)) c.check-in-WithPatternsFalse.result)
    (ap with_patterns_false_holds c.deref-in-WithPatternsFalse.ensures ∙ ap held (sym c.in-WithPatternsFalse.is)) c.check-in-WithPatternsFalse.ensures

pub returns-in-WithPatternsNotEmpty : goal.returns-in-WithPatternsNotEmpty
returns-in-WithPatternsNotEmpty g c =
    subst (λ h. Asks c.args.ctx.now c.check-in-WithPatternsNotEmpty.new.ctx ((additional_properties_answers g.R.RegexEngine.answers g.R.RegexEngine.costs h).means g.N.Means.means (g.A.Asked.stands_for c.args.asked)) c.check-in-WithPatternsNotEmpty.result)
    (ap with_both_holds c.deref-in-WithPatternsNotEmpty.ensures ∙ ap held (sym c.in-WithPatternsNotEmpty.is)) c.check-in-WithPatternsNotEmpty.ensures

pub returns-in-WithPatternsNotEmptyFalse : goal.returns-in-WithPatternsNotEmptyFalse
returns-in-WithPatternsNotEmptyFalse g c =
    subst (λ h. Asks c.args.ctx.now c.check-in-WithPatternsNotEmptyFalse.new.ctx ((additional_properties_answers g.R.RegexEngine.answers g.R.RegexEngine.costs h).means g.N.Means.means (g.A.Asked.stands_for c.args.asked)) c.check-in-WithPatternsNotEmptyFalse.result)
    (ap with_both_false_holds c.deref-in-WithPatternsNotEmptyFalse.ensures ∙ ap held (sym c.in-WithPatternsNotEmptyFalse.is)) c.check-in-WithPatternsNotEmptyFalse.ensures
