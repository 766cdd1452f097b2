use Rattle.std.proofs.Common.{◌≡◌, drop}
use Rattle.std.specs.List.{list_any}
use Rattle.olk_base.specs.Nodes.{data_of}
use Rattle.olk_vocabulary.specs.Keywords.{is_of_kind}
use Rattle.olk_vocabulary.specs.Leaves.{kind_name}
use Rattle.olk_vocabulary.proofs.kinds.is_of_some_kind.Given as goal

abbrev pub invariant-loop-kind : goal.invariant-loop-kind
invariant-loop-kind l = list_any (λ k. is_of_kind (kind_name k) (data_of l.node)) l.kind-items ≡ list_any (λ k. is_of_kind (kind_name k) (data_of l.node)) (drop l.kind-index l.kind-items)
