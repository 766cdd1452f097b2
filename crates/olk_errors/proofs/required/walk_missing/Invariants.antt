use Rattle.std.proofs.Common.{drop, true}
use Rattle.olk_base.specs.Nodes.{subject_data}
use Rattle.olk_reports.specs.Paths.{path_at}
use Rattle.olk_errors.proofs.Loops.{Walked}
use Rattle.olk_errors.proofs.Missing.{is_there, lacked}
use Rattle.olk_errors.proofs.required.walk_missing.Given as goal

abbrev pub invariant-loop-name : goal.invariant-loop-name
invariant-loop-name l = Walked (is_there (subject_data l.node)) true (lacked (subject_data l.node) l.location (path_at l.trail)) (lacked (subject_data l.node) l.location (path_at l.trail))
    l.names.items (drop l.name-index l.names.items) l.initial.sink l.sink
