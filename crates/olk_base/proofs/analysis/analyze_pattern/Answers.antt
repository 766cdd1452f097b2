use Rattle.std.proofs.lemmas.Result.{IfOk-weaker}
use Rattle.olk_base.specs.Optimization.{test_of}
use Rattle.olk_base.proofs.Forms.{stands_for}
use Rattle.olk_base.proofs.analysis.analyze_pattern.Goals as goal

pub returns-clause-grammar : goal.returns-clause-grammar
returns-clause-grammar c = IfOk-weaker c.scan_pattern.result _ _ (λ o. stands_for test_of c.args.pattern.now o) c.scan_pattern.ensures
