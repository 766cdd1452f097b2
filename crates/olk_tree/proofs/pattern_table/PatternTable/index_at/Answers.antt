use Rattle.std.proofs.Common.{rules}
use Rattle.olk_tree.proofs.pattern_table.PatternTable.index_at.Goals as goal

pub returns-in-Some-false : goal.returns-in-Some-false
returns-in-Some-false c = search rules
