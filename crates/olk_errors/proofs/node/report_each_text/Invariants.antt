use Rattle.std.proofs.Common.{◌≡◌, length, string_bytes}
use Rattle.std.specs.Vec.Iter.{into_iter_items, into_iter_len}
use Rattle.olk_base.specs.Nodes.{subject_data}
use Rattle.olk_reports.specs.Paths.{path_at}
use Rattle.olk_errors.proofs.Own.{leaf_fault}
use Rattle.olk_errors.proofs.Telling.{Telling}
use Rattle.olk_errors.proofs.node.report_each_text.Given as goal

abbrev pub invariant-loop-text : goal.invariant-loop-text
invariant-loop-text g l = record {
  told : Telling (λ t. leaf_fault l.keyword (subject_data l.node) l.location (path_at l.trail) (string_bytes t))
      (into_iter_items l.initial.text-iterator) (into_iter_items l.text-iterator) l.initial.sink l.sink;
  left : into_iter_len l.text-iterator ≡ length (into_iter_items l.text-iterator);
}
