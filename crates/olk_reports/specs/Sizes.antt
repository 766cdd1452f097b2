-- Each node below a result has fewer nodes below it than the result has.
use Rattle.std.specs.Prelude.{◌≡◌, ◌+◌, ◌≤◌, max, true, false, List, [], ◌∷◌, map}
use Rattle.std.proofs.Common.{arith, refl}
use Rattle.olk_spec.specs.Names.{Path}
use Rattle.olk_spec.specs.Tree.{trees_from}
use Rattle.olk_reports.specs.Shown.{Shown, shown, node_at, shown_size, tree_size, trees_size}
use Rattle.olk_reports.specs.Evaluations.{tree_of}
use Rattle.olk_reports.specs.declared.evaluation.EvaluationNode.{EvaluationNode}
use Rattle.olk_reports.specs.declared.evaluation.EvaluationResult.TheDeep.{deep-EvaluationNode}
use denote.Param.Weighed.{most}

size_at : (P Q : Path) (s : Shown) → tree_size (node_at P Q s) ≡ shown_size s + 1
size_at P Q (shown true a es ts) = refl
size_at P Q (shown false a es ts) = refl

deep_node : (n : EvaluationNode) → deep-EvaluationNode n ≡ max (shown_size n.result + 1) 0
deep_node n = refl

pub children_are_less : (ns : List EvaluationNode) → max (most deep-EvaluationNode ns) 0 ≤ trees_size (trees_from (map tree_of ns))
children_are_less [] = omega arith
children_are_less (n ∷ ns) = omega (arith, deep_node n, size_at n.schema_path.now n.instance_path n.result, children_are_less ns)
