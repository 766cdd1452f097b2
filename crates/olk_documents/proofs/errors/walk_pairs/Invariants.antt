use Rattle.std.proofs.Common.{drop, map, ◌-◌, length}
use Rattle.std.specs.List.{zip}
use Rattle.serde_json.specs.View.{view}
use Rattle.olk_spec.specs.Names.{◌//◌}
use Rattle.olk_spec.specs.Schemas.{numbered}
use Rattle.olk_reports.specs.Paths.{path_at}
use Rattle.olk_errors.proofs.Loops.{Walking}
use Rattle.olk_documents.proofs.errors.walk_pairs.Given as goal

abbrev pub invariant-loop-i : goal.invariant-loop-i
invariant-loop-i g l = Walking (λ e. g.N.Means.means e.0 e.1.1)
    (λ u e. g.N.Reports.first e.0 u e.1.1 (path_at l.trail // e.1.0)) (λ u e. g.N.Reports.report e.0 u e.1.1 (path_at l.trail // e.1.0))
    (zip l.schemas.items (drop 0 (numbered (map view l.items.items)))) (drop l.i (zip l.schemas.items (drop 0 (numbered (map view l.items.items))))) l.initial.sink l.sink l.initial.ctx l.ctx

abbrev pub decreases-loop-i : goal.decreases-loop-i
decreases-loop-i g l = length l.schemas.items - l.i
