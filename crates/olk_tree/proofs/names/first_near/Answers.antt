use Rattle.std.proofs.Common.{ap, arith}
use Rattle.olk_tree.proofs.Heads.{before_more}
use Rattle.olk_tree.proofs.names.first_near.Goals as goal

pub loop-place-preserved : goal.loop-place-preserved
loop-place-preserved c = before_more c.args.names.now c.index-names-place.result c.requires (omega arith) c.index-names-place.is (omega (arith, ap (λ e. e.head) c.index-names-place.is, c.if-names-place.false))
