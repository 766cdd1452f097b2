use Rattle.std.proofs.Common.{◌≡◌}
use Rattle.olk_tree.specs.Tables.{table_says, indices_below}
use Rattle.olk_tree.proofs.pattern_table.PatternTable.indices_at.Given as goal

abbrev pub invariant-loop-index : goal.invariant-loop-index
invariant-loop-index l = l.indices.items ≡ indices_below (table_says l.self l.place) l.index
