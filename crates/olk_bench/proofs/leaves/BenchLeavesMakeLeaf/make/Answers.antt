use Rattle.std.proofs.Common.{rules}
use Rattle.olk_bench.proofs.leaves.BenchLeavesMakeLeaf.make.Goals as goal

pub returns-in_err-leaf-in-Some-clause-counts : goal.returns-in_err-leaf-in-Some-clause-counts
returns-in_err-leaf-in-Some-clause-counts c = search rules

pub returns-in-Some-2-clause-counts : goal.returns-in-Some-2-clause-counts
returns-in-Some-2-clause-counts c = search rules

pub returns-in-None-2-clause-counts : goal.returns-in-None-2-clause-counts
returns-in-None-2-clause-counts c = search rules

pub returns-in-None-clause-counts : goal.returns-in-None-clause-counts
returns-in-None-clause-counts c = search rules
