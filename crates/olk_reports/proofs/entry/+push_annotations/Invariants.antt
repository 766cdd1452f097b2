use Rattle.std.proofs.Common.{◌≡◌, ◌++◌, map, take}
use Rattle.std.specs.List.{flat_map}
use Rattle.olk_spec.specs.Tree.{annotations}
use Rattle.olk_reports.specs.Evaluations.{tree_of}
use Rattle.olk_reports.specs.Shown.{tree_size}
use Rattle.olk_reports.specs.Entries.{annotation_of}
use Rattle.olk_reports.proofs.entry.+push_annotations.Given as goal

abbrev pub invariant-loop-child : goal.invariant-loop-child
invariant-loop-child l = map annotation_of l.entries.items ≡ map annotation_of l.initial.entries.items ++ flat_map (λ m. annotations (tree_of m)) (take l.child-index l.child-items)

abbrev pub decreases-push_annotations : goal.decreases-push_annotations
decreases-push_annotations l = tree_size (tree_of l.node.now)
