use Rattle.std.proofs.Common.{◌≡◌, ◌*◌, take, map}
use Rattle.std.specs.List.{AllZip}
use Rattle.olk_tree.specs.Sorted.{name_of}
use Rattle.olk_tree.specs.Tables.{patterns_of, IsRowOf, how_many_cost, count_asks}
use Rattle.olk_tree.proofs.pattern_table.rows_of.Given as goal

abbrev pub invariant-loop-name : goal.invariant-loop-name
invariant-loop-name g l = record {
  rows : AllZip (IsRowOf g.R.RegexEngine.answers (patterns_of l.patterns)) (map name_of (take l.name-index l.names)) l.rows.items;
  asked : l.meter ≡ count_asks (l.name-index * how_many_cost g.R.RegexEngine.costs (patterns_of l.patterns)) l.initial.meter;
}
