use Rattle.std.proofs.Common.{rules}
use Rattle.olk_bench.proofs.leaf.BenchLeafLeaf.keyword.Goals as goal

pub returns-in-Minimum : goal.returns-in-Minimum
returns-in-Minimum c = search rules
