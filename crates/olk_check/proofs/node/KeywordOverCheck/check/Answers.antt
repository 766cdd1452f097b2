use Rattle.std.proofs.Common.{ap, ◌∙◌}
use Rattle.olk_spec.specs.Names.{is_empty}
use Rattle.olk_tree.specs.Validators.{answers_of}
use Rattle.olk_check.proofs.Answered.{said}
use Rattle.olk_check.proofs.node.KeywordOverCheck.check.Goals as goal

pub returns-in-Leaf : goal.returns-in-Leaf
unfolding answers_of
returns-in-Leaf g c =
    rw c.in-Leaf.is (said c.args.ctx.now (c.is_valid.ensures ∙ ap (λ v. is_empty (g.K.Leaf.finds c.in-Leaf.leaf v)) c.node.ensures))
