use Rattle.std.proofs.Common.{None, [], ◌∷◌, ◌++◌, map, ap, ◌∙◌}
use Rattle.std.specs.List.{list_all}
use Rattle.std.proofs.Math.Bool.{and-true}
use Rattle.olk_spec.specs.Tree.{is_valid}
use Rattle.olk_reports.specs.Evaluations.{shown, tree_of}
use Rattle.olk_reports.proofs.evaluation.EvaluationResult.from_node.Goals as goal

pub returns : goal.returns
returns c =
    c.from_children.ensures
    ∙ ap (λ ns. shown (list_all is_valid (map tree_of ns)) None [] (map tree_of ns)) (c.in_ok-push.ensures.items ∙ ap (λ ns. ns ++ c.args.node ∷ []) c.in_ok-children.ensures.items)
    ∙ ap (λ valid. shown valid None [] (tree_of c.args.node ∷ [])) (and-true (is_valid (tree_of c.args.node)))
