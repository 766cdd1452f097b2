use Rattle.std.proofs.Common.{drop}
use Rattle.olk_base.specs.Nodes.{subject_data}
use Rattle.olk_reports.specs.Paths.{path_at}
use Rattle.olk_errors.proofs.Contexts.{Branching}
use Rattle.olk_errors.proofs.branches.contexts.Given as goal

abbrev pub invariant-loop-n : goal.invariant-loop-n
invariant-loop-n g l = Branching (λ u n. g.N.Reports.report n u (subject_data l.node) (path_at l.trail)) l.nodes.items (drop l.n-index l.nodes.items) l.contexts.items l.initial.ctx l.ctx
