use Rattle.std.proofs.Common.{drop}
use Rattle.olk_check.proofs.Walks.{AllLeft}
use Rattle.olk_documents.proofs.valid.all_accept.Given as goal

abbrev pub invariant-loop-n : goal.invariant-loop-n
invariant-loop-n g l = AllLeft (λ n. g.N.Means.means n (g.A.Asked.stands_for l.asked)) l.keywords.items (drop l.n-index l.keywords.items) l.initial.ctx l.ctx
