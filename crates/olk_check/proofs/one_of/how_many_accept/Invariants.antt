use Rattle.std.proofs.Common.{drop}
use Rattle.olk_check.proofs.Counting.{OneLeft}
use Rattle.olk_check.proofs.one_of.how_many_accept.Given as goal

abbrev pub invariant-loop-schema : goal.invariant-loop-schema
invariant-loop-schema g l = OneLeft (λ n. g.N.Means.means n (g.A.Asked.stands_for l.asked)) l.schemas.items (drop l.schema-index l.schemas.items) l.found l.initial.ctx l.ctx
