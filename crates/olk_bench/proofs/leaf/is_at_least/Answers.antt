use Rattle.std.proofs.Common.{rules}
use Rattle.olk_bench.proofs.leaf.is_at_least.Goals as goal

pub returns-in-Some : goal.returns-in-Some
returns-in-Some c = search rules
