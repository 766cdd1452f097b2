use Rattle.std.proofs.Common.{ap, map}
use Rattle.olk_reports.specs.Evaluations.{annotated}
use Rattle.olk_reports.proofs.evaluation.EvaluationResult.annotate.Goals as goal

pub invariant_of-self : goal.invariant_of-self
invariant_of-self c = c.self.invariant

pub returns : goal.returns
returns c = ap (annotated (map (λ n. n.now) c.args.names.items)) c.self.view_is
