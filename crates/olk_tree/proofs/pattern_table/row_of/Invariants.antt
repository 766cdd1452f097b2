use Rattle.olk_tree.specs.Tables.{patterns_of}
use Rattle.olk_tree.proofs.Tables.{IsAskedTo}
use Rattle.olk_tree.proofs.pattern_table.row_of.Given as goal

abbrev pub invariant-loop-index : goal.invariant-loop-index
invariant-loop-index g l = IsAskedTo g.R.RegexEngine.answers g.R.RegexEngine.costs (patterns_of l.patterns) l.name l.initial.meter l.index l.row l.meter
