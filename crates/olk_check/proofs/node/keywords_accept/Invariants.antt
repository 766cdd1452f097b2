use Rattle.std.proofs.Common.{length}
use Rattle.olk_base.specs.Kit.{kit}
use Rattle.olk_tree.specs.Validators.{validator_means}
use Rattle.olk_check.proofs.Walks.{AllLeft}
use Rattle.olk_check.proofs.node.keywords_accept.Given as goal

abbrev pub invariant-loop-left : goal.invariant-loop-left
invariant-loop-left g l = AllLeft (λ k. validator_means (kit g.K.Leaf g.R.RegexEngine) g.N.Means.means k (g.A.Asked.stands_for l.asked)) l.keywords l.left l.initial.ctx l.ctx

abbrev pub decreases-loop-left : goal.decreases-loop-left
decreases-loop-left g l = length l.left
