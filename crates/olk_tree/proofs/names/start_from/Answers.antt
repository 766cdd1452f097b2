use Rattle.std.proofs.Common.{ap, arith}
use Rattle.olk_tree.proofs.Heads.{before_hint}
use Rattle.olk_tree.proofs.names.start_from.Goals as goal

pub returns-then-names-hint : goal.returns-then-names-hint
returns-then-names-hint c =
    before_hint c.args.names.now c.index-names-hint.result c.requires (omega arith) (omega arith) c.index-names-hint.is (omega (arith, ap (λ e. e.head) c.index-names-hint.is, c.if-names-hint.true))
