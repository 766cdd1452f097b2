use Rattle.std.proofs.Common.{◌∙◌, ap, sym}
use Rattle.olk_base.specs.Nodes.{data_of}
use Rattle.olk_spec.specs.Faults.{fault}
use Rattle.olk_reports.specs.Errors.{fault_of, inner_schema_path}
use Rattle.olk_reports.proofs.Errors.{fault_of_parts, kind_of_property_names, wrapped_is}
use Rattle.olk_reports.proofs.error.ValidationError.wrapping_at.Goals as goal

pub returns-clause-fault : goal.returns-clause-fault
returns-clause-fault c = fault_of_parts _ _ _ _
    ∙ ap (λ k. fault k (data_of c.args.instance) c.args.instance_path (inner_schema_path k)) (kind_of_property_names c.args.error)
    ∙ sym (wrapped_is (data_of c.args.instance) c.args.instance_path (fault_of c.args.error.value))
