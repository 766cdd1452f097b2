use Rattle.std.proofs.Common.{nat_lt, rules}
use Rattle.std.proofs.lemmas.Fn.{always_returns_same}
use Rattle.olk_tree.proofs.Heads.{heads_parted, first_parted}
use Rattle.olk_tree.proofs.names.first_of_all.Goals as goal

pub returns : goal.returns
returns c =
    let facts = c.partition_point.ensures in
    first_parted c.args.names.now c.args.head c.requires facts.bound
    (facts.partitioned (λ y. nat_lt y.head c.args.head) (always_returns_same _ _ _ (λ a r w called. search rules)) (heads_parted c.args.names.now c.args.head c.requires))
