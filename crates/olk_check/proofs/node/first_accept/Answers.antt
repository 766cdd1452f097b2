use Rattle.std.proofs.Common.{ap, ◌∙◌}
use Rattle.olk_spec.specs.Names.{is_empty}
use Rattle.olk_tree.specs.Validators.{answers_of}
use Rattle.olk_check.proofs.Answered.{answered_one, first_one, by_first, said}
use Rattle.olk_check.proofs.node.first_accept.Goals as goal

pub returns-in-Leaf : goal.returns-in-Leaf
unfolding answers_of
returns-in-Leaf g c =
    first_one _ _ _ _ (by_first c.index-keywords-0.is c.requires) c.in-Leaf.is
    (answered_one c.one_if.ensures (said c.args.ctx.now (c.is_valid.ensures ∙ ap (λ v. is_empty (g.K.Leaf.finds c.in-Leaf.leaf v)) c.node.ensures)))
