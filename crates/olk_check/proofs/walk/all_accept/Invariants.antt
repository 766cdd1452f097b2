use Rattle.std.proofs.Common.{drop}
use Rattle.olk_check.proofs.Walks.{AllLeft}
use Rattle.olk_check.proofs.walk.all_accept.Given as goal

abbrev pub invariant-loop-n : goal.invariant-loop-n
invariant-loop-n g l = AllLeft (λ n. g.N.Means.means n (g.A.Asked.stands_for l.asked)) l.nodes.items (drop l.n-index l.nodes.items) l.initial.ctx l.ctx
