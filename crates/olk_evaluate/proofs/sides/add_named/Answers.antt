use Rattle.std.proofs.lemmas.Result.{on_ok_weaker}
use Rattle.olk_base.specs.Nodes.{subject_data}
use Rattle.olk_reports.proofs.Errors.{kind_of_additional_properties}
use Rattle.olk_evaluate.proofs.OwnErrors.{adds_as, names_told}
use Rattle.olk_evaluate.proofs.sides.add_named.Goals as goal

pub returns : goal.returns
returns c = on_ok_weaker c.mark_errored_by.result
    (λ added P Q. names_told c.args.unexpected.items (subject_data c.args.node) P Q c.args.unexpected.ok.0 c.if-is_empty.ensures
    (adds_as (kind_of_additional_properties c.args.unexpected) c.node.ensures (added P Q))) c.mark_errored_by.ensures.added
