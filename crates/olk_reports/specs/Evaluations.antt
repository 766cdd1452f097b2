-- The tree that an evaluation node stands for.
use Rattle.std.specs.Prelude.{◌≡◌, false, Option, None, List, [], ◌∷◌}
use Rattle.olk_spec.specs.Names.{Name, Path}
use Rattle.olk_spec.specs.Faults.{Fault}
use Rattle.olk_spec.specs.Tree.{Tree, node, leaf_node, AreTold, Described, described, described_fault}
use Rattle.olk_reports.specs.declared.evaluation.EvaluationNode.{EvaluationNode}
pub use Rattle.olk_reports.specs.Shown.{Shown, shown}
unfoldable pub use Rattle.olk_reports.specs.Shown.{shown_valid, shown_annotation, shown_errors, shown_children, IsConsistent, described_of, nothing_shown, annotated, errored, with_children, with_names, called_invalid, node_at, trees_in}

-- what a result shows: that is what clauses see of it
abbrev pub shown_of : Shown → Shown
shown_of s = s

abbrev pub tree_of : EvaluationNode → Tree
tree_of n = node_at n.schema_path.now n.instance_path n.result

-- the error that shows a fault; a text that prints a fraction may be any text
pub record IsDescribedBy (f : Fault) (d : Described) : Type 0 where
  pub keyword : d.0 ≡ (described_fault f).0
  pub text : (described_fault f).2 ≡ false → d.1 ≡ (described_fault f).1

abbrev pub errored_by : List Described → Shown → Shown
errored_by [] s = s
errored_by (d ∷ ds) s = errored_by ds (errored d s)

-- own errors more, which show faults
pub record AddsErrors (fs : List Fault) (old new : Shown) : Type 0 where
  pub own : List Described
  pub told : AreTold (described fs) own
  pub is : new ≡ errored_by own old

-- the parts of a tree
abbrev pub tree_schema_path : Tree → Path
tree_schema_path (node P Q b a es ts) = P
tree_schema_path (leaf_node P Q es) = P

abbrev pub tree_instance_path : Tree → Path
tree_instance_path (node P Q b a es ts) = Q
tree_instance_path (leaf_node P Q es) = Q

abbrev pub tree_annotation : Tree → Option (List Name)
tree_annotation (node P Q b a es ts) = a
tree_annotation (leaf_node P Q es) = None

abbrev pub tree_errors : Tree → List Described
tree_errors (node P Q b a es ts) = es
tree_errors (leaf_node P Q es) = es

abbrev pub tree_children : Tree → List Tree
tree_children (node P Q b a es ts) = trees_in ts
tree_children (leaf_node P Q es) = []
