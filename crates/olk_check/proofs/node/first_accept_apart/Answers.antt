use Rattle.std.proofs.Common.{refl, sym, ap, subst, ◌∙◌}
use Rattle.olk_base.specs.Kit.{kit}
use Rattle.olk_tree.specs.Validators.{answers_of, validator_means}
use Rattle.olk_tree.specs.Questions.{Question}
use Rattle.olk_tree.specs.declared.node.KeywordOver.TheVariants as keyword
use Rattle.olk_check.specs.Together.{AsksOne, AsksTwo}
use Rattle.olk_check.proofs.Answered.{answered_one, first_one, first_two, by_first, by_first_two}
use Rattle.olk_check.proofs.node.first_accept_apart.Goals as goal

pub returns-in-Some-2 : goal.returns-in-Some-2
returns-in-Some-2 g c =
    first_one _ _ _ _ (by_first c.index-keywords-0.is c.requires) refl
    (subst (λ q. AsksOne c.args.ctx.now c.properties_accept.new.ctx q c.properties_accept.result) (sym (c.in-Some.ensures (g.A.Asked.stands_for c.args.asked))) c.properties_accept.ensures)

pub returns-in-PropertiesWithRequired2 : goal.returns-in-PropertiesWithRequired2
unfolding answers_of
returns-in-PropertiesWithRequired2 g c =
    first_one _ _ _ _ (by_first c.index-keywords-0.is c.requires) (c.in-PropertiesWithRequired2.is ∙ ap
    (λ p. keyword.PropertiesWithRequired2 record c.in-PropertiesWithRequired2.properties { value = p }) (sym c.deref.ensures))
    c.properties_with_required2_accept.ensures

pub returns-in-AdditionalProperties : goal.returns-in-AdditionalProperties
unfolding answers_of
returns-in-AdditionalProperties g c =
    first_one _ _ _ _ (by_first c.index-keywords-0.is c.requires) c.in-AdditionalProperties.is
    (answered_one c.one_if.ensures c.check.ensures)

pub returns-in-Required : goal.returns-in-Required
unfolding answers_of
returns-in-Required g c =
    first_one _ _ _ _ (by_first c.index-keywords-0.is c.requires) c.in-Required.is
    (answered_one c.one_if-in-Required.ensures c.check-in-Required.ensures)

pub returns-in-AnyOf : goal.returns-in-AnyOf
unfolding answers_of
returns-in-AnyOf g c =
    first_one _ _ _ _ (by_first c.index-keywords-0.is c.requires) c.in-AnyOf.is
    (answered_one c.one_if-in-AnyOf.ensures c.check-in-AnyOf.ensures)

pub returns-in_default-keyword : goal.returns-in_default-keyword
unfolding answers_of
returns-in_default-keyword g c =
    first_one _ _ _ _ (by_first c.index-keywords-0.is c.requires) refl
    (answered_one c.one_if-in_default-keyword.ensures c.keyword_accepts.ensures)

pub returns-in-Some : goal.returns-in-Some
returns-in-Some g c =
    first_two (λ k. validator_means (kit g.K.Leaf g.R.RegexEngine) g.N.Means.means k
    (g.A.Asked.stands_for c.args.asked)) c.args.ctx.now c.properties_with_required_accept.new.ctx c.properties_with_required_accept.result
    (by_first_two c.index-keywords-0.is c.index-keywords-1.is c.if-keywords-gt1.true)
    (subst {A = Question × Question} (λ q. AsksTwo c.args.ctx.now c.properties_with_required_accept.new.ctx q.0 q.1 c.properties_with_required_accept.result)
    (λ i. (sym (c.in-Some.ensures (g.A.Asked.stands_for c.args.asked)) i, sym (c.in-Some-only_required_name.ensures (g.A.Asked.stands_for c.args.asked)) i)) c.properties_with_required_accept.ensures)
