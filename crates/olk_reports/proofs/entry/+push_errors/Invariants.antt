use Rattle.std.proofs.Common.{◌≡◌, ◌++◌, map, take}
use Rattle.std.specs.List.{flat_map}
use Rattle.olk_spec.specs.Tree.{errors}
use Rattle.olk_reports.specs.Evaluations.{tree_of}
use Rattle.olk_reports.specs.Shown.{tree_size}
use Rattle.olk_reports.specs.Entries.{error_of}
use Rattle.olk_reports.proofs.entry.+push_errors.Given as goal

abbrev pub invariant-loop-child : goal.invariant-loop-child
invariant-loop-child l = map error_of l.entries.items ≡ map error_of l.initial.entries.items ++ flat_map (λ m. errors (tree_of m)) (take l.child-index l.child-items)

abbrev pub decreases-push_errors : goal.decreases-push_errors
decreases-push_errors l = tree_size (tree_of l.node.now)
