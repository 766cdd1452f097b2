use Rattle.std.proofs.Common.{ap, map, None, false}
use Rattle.olk_reports.specs.Evaluations.{shown, tree_of, described_of}
use Rattle.olk_reports.proofs.evaluation.EvaluationResult.invalid_with.Goals as goal

pub invariant_of-result : goal.invariant_of-result
invariant_of-result c valid = cc

pub returns : goal.returns
returns c = ap (λ es. shown false None (map described_of es) (map tree_of c.args.children.items)) c.new.ensures.items
