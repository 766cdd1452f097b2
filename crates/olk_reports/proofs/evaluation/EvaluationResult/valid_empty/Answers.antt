use Rattle.std.proofs.Common.{None, ap, map, true}
use Rattle.std.specs.List.{list_all}
use Rattle.olk_spec.specs.Tree.{is_valid}
use Rattle.olk_reports.specs.Evaluations.{described_of, shown, tree_of}
use Rattle.olk_reports.proofs.evaluation.EvaluationResult.valid_empty.Goals as goal

pub invariant_of-result : goal.invariant_of-result
invariant_of-result c valid = ap (λ ns. list_all is_valid (map tree_of ns)) c.new-2.ensures.items

pub returns : goal.returns
returns c = λ i. shown true None (map described_of (c.new.ensures.items i)) (map tree_of (c.new-2.ensures.items i))
