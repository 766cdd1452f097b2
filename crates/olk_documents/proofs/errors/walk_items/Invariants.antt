use Rattle.std.proofs.Common.{drop, map, ◌-◌, length}
use Rattle.serde_json.specs.View.{view}
use Rattle.olk_spec.specs.Schemas.{numbered}
use Rattle.olk_spec.specs.Names.{◌//◌}
use Rattle.olk_reports.specs.Paths.{path_at}
use Rattle.olk_errors.proofs.Loops.{Walking}
use Rattle.olk_documents.proofs.errors.walk_items.Given as goal

abbrev pub invariant-loop-i : goal.invariant-loop-i
invariant-loop-i g l = Walking (λ e. g.N.Means.means l.n e.1)
    (λ u e. g.N.Reports.first l.n u e.1 (path_at l.trail // e.0)) (λ u e. g.N.Reports.report l.n u e.1 (path_at l.trail // e.0))
    (drop l.skip (numbered (map view l.items.items))) (drop l.i (numbered (map view l.items.items))) l.initial.sink l.sink l.initial.ctx l.ctx

abbrev pub decreases-loop-i : goal.decreases-loop-i
decreases-loop-i g l = length l.items.items - l.i
