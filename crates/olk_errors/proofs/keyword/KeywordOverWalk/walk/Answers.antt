use Rattle.olk_tree.specs.Validators.{answers_of}
use Rattle.olk_check.proofs.Asked.{only_same}
use Rattle.olk_errors.proofs.Sinks.{walks_alone}
use Rattle.olk_errors.proofs.keyword.KeywordOverWalk.walk.Goals as goal

pub returns-in-Leaf : goal.returns-in-Leaf
unfolding answers_of
returns-in-Leaf g c = rw c.in-Leaf.is (walks_alone (only_same c.args.ctx.now) (λ u. c.walk_leaf.ensures))
