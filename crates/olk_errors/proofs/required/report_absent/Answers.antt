use mathlib.Core.Path.{subst₂}
use Rattle.olk_base.specs.Nodes.{subject_data}
use Rattle.olk_spec.specs.Faults.{fault}
use Rattle.olk_reports.specs.Paths.{path_at}
use Rattle.olk_reports.proofs.Errors.{kind_of_required}
use Rattle.olk_errors.specs.Sinks.{Takes}
use Rattle.olk_errors.proofs.required.report_absent.Goals as goal

pub returns : goal.returns
returns c = subst₂ (λ k P. Takes c.report.result c.args.sink.now c.report.new.self (fault k (subject_data c.args.node) (path_at c.args.trail.now) P))
    (kind_of_required c.args.name) c.as_str.ensures c.report.ensures
