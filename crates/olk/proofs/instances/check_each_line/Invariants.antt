use Rattle.std.proofs.Common.{List}
use Rattle.std.specs.Prelude.{Option}
use Rattle.serde_json.specs.View.{view}
use Rattle.olk_spec.specs.Names.{Text}
use Rattle.olk_base.specs.Kit.{world}
use Rattle.olk.specs.Statuses.{IsChecked}
use Rattle.olk.proofs.instances.check_each_line.Given as goal

abbrev pub invariant-loop-number : goal.invariant-loop-number
invariant-loop-number g l = (them : List (Option Text)) × IsChecked (world g.K.Leaf g.R.RegexEngine) (view l.checker.schema.now) l.fn.console.status them l.console.status
