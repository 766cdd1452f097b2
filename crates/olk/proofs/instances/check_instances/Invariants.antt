use Rattle.std.proofs.Common.{◌≡◌, List, length, false}
use Rattle.std.specs.Prelude.{Option}
use Rattle.serde_json.specs.View.{view}
use Rattle.olk_spec.specs.Names.{Text}
use Rattle.olk_base.specs.Kit.{world}
use Rattle.olk.specs.Statuses.{IsChecked}
use Rattle.olk.proofs.instances.check_instances.Given as goal

-- what was read for the paths so far, one text each where each is one value
abbrev pub invariant-loop-path : goal.invariant-loop-path
invariant-loop-path g l = (them : List (Option Text)) × IsChecked (world g.K.Leaf g.R.RegexEngine) (view l.checker.schema.now) l.fn.console.status them l.console.status × (l.checker.options.now.has_lines ≡ false → length them ≡ l.path-index)
