use Rattle.olk_base.specs.Nodes.{subject_data}
use Rattle.olk_reports.specs.Paths.{path_at}
use Rattle.olk_check.proofs.Asked.{only_same}
use Rattle.olk_errors.proofs.AdditionalHeld.{no_members_held}
use Rattle.olk_errors.proofs.Sinks.{walks_same, walks_alone}
use Rattle.olk_errors.proofs.additional_properties.AdditionalPropertiesFalseWalk.walk.Goals as goal

pub returns : goal.returns
returns c = walks_same (λ u so. no_members_held u c.args.self.now (subject_data c.args.node) (path_at c.args.trail.now))
    (walks_alone (only_same c.args._ctx.now) (λ u. c.report_first.ensures))
