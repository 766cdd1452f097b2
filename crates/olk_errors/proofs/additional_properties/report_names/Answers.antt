use Rattle.std.proofs.Common.{subst}
use Rattle.olk_base.specs.Nodes.{subject_data}
use Rattle.olk_spec.specs.Faults.{fault}
use Rattle.olk_reports.specs.Paths.{path_at}
use Rattle.olk_reports.proofs.Errors.{kind_of_additional_properties}
use Rattle.olk_errors.specs.Sinks.{Takes}
use Rattle.olk_errors.proofs.additional_properties.report_names.Goals as goal

pub returns : goal.returns
returns c = subst (Takes c.report.result c.args.sink.now c.report.new.self)
    (λ i. fault (kind_of_additional_properties c.args.unexpected i) (subject_data c.args.object) (path_at c.args.trail.now) (c.as_str.ensures i)) c.report.ensures
