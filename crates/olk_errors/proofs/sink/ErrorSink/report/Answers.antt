use Rattle.std.proofs.Common.{subst, ◌∙◌}
use Rattle.olk_spec.specs.Faults.{fault}
use Rattle.olk_reports.specs.Errors.{kind_of}
use Rattle.olk_errors.proofs.Sinks.{ends_nowhere}
use Rattle.olk_errors.specs.Sinks.{Takes}
use Rattle.olk_errors.proofs.sink.ErrorSink.report.Goals as goal

pub returns-in_err-instance_path : goal.returns-in_err-instance_path
returns-in_err-instance_path c = ends_nowhere c.from_residual.ensures.0

pub returns : goal.returns
returns c = subst (Takes c.take.result c.args.self.now c.take.new.self)
    (c.at.ensures.fault ∙ (λ i. fault (kind_of c.args.kind) (c.node.ensures i) (c.in_ok-instance_path.ensures i) c.args.schema_path.now)) c.take.ensures
