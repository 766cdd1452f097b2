use Rattle.std.proofs.Common.{◌≡◌, ◌++◌, map, take}
use Rattle.olk_reports.specs.Evaluations.{tree_of, described_of, tree_schema_path, tree_instance_path}
use Rattle.olk_reports.specs.Entries.{error_of}
use Rattle.olk_reports.proofs.entry.push_own_errors.Given as goal

abbrev pub invariant-loop-error : goal.invariant-loop-error
invariant-loop-error l =
    map error_of l.entries.items ≡ map error_of l.initial.entries.items ++ map (λ e. (tree_schema_path (tree_of l.node), tree_instance_path (tree_of l.node), described_of e))
    (take l.error-index l.error-items)
