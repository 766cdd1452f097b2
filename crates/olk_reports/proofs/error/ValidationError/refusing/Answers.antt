use Rattle.std.proofs.Common.{◌∙◌, ap}
use Rattle.olk_base.specs.Nodes.{data_of}
use Rattle.olk_spec.specs.Faults.{fault}
use Rattle.olk_reports.specs.Errors.{kind_of}
use Rattle.olk_reports.proofs.Errors.{fault_of_parts}
use Rattle.olk_reports.proofs.error.ValidationError.refusing.Goals as goal

pub returns-clause-fault : goal.returns-clause-fault
returns-clause-fault c = fault_of_parts _ _ _ _ ∙ ap (λ t. fault (kind_of c.args.kind) (data_of c.args.instance) t c.args.schema_path) c.from.ensures
