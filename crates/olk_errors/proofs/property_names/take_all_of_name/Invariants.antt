use Rattle.std.proofs.Common.{◌≡◌, length}
use Rattle.std.specs.Vec.Iter.{into_iter_items, into_iter_len}
use Rattle.olk_base.specs.Nodes.{subject_data}
use Rattle.olk_reports.specs.Paths.{path_at}
use Rattle.olk_spec.specs.Reports.{wrapped}
use Rattle.olk_reports.specs.Errors.{fault_of}
use Rattle.olk_errors.proofs.Telling.{Telling}
use Rattle.olk_errors.proofs.property_names.take_all_of_name.Given as goal

abbrev pub invariant-loop-error : goal.invariant-loop-error
invariant-loop-error g l = record {
  told : Telling (λ e. wrapped (subject_data l.object) (path_at l.trail) (fault_of e)) (into_iter_items l.initial.error-iterator) (into_iter_items l.error-iterator) l.initial.sink l.sink;
  left : into_iter_len l.error-iterator ≡ length (into_iter_items l.error-iterator);
}
