use Rattle.std.proofs.Common.{ap, subst, ◌∙◌}
use Rattle.olk_base.specs.Kit.{kit}
use Rattle.olk_tree.specs.{Places.AnswersBy, declared.node.Body.TheVariants.RequiredNames}
use Rattle.olk_build.proofs.dependencies.node_of_list.Goals as goal

pub returns : goal.returns
returns g c = record {
  boxed = c.in_ok-new.field-0;
  holds = (ap (λ k. k.required) c.in_ok-new.ensures.ok, ap (λ k. k.location) c.in_ok-new.ensures.ok ∙ c.in_ok-try_clone.ensures);
  answers_by = subst (λ P. AnswersBy (kit g.K.Leaf g.R.RegexEngine) g.N.BuiltNode.answers P (RequiredNames c.in_ok-new.field-0) c.new-2.result) c.in_ok-place.ensures c.new-2.ensures;
}
