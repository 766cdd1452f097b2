use Rattle.std.proofs.Common.{drop, map, ◌-◌, length}
use Rattle.std.specs.List.{zip}
use Rattle.serde_json.specs.View.{view}
use Rattle.olk_spec.specs.Schemas.{numbered}
use Rattle.olk_reports.specs.Evaluations.{shown_of}
use Rattle.olk_evaluate.specs.Wanted.{ShowsMore}
use Rattle.olk_evaluate.proofs.Shows.{Leaves}
use Rattle.olk_documents.specs.Wanted.{pairs_wanted}
use Rattle.olk_documents.proofs.evaluate.show_pairs.Given as goal

abbrev pub invariant-loop-i : goal.invariant-loop-i
invariant-loop-i g l = Leaves (λ u Q es. ShowsMore (pairs_wanted g.N.Show.tree g.N.Means.means u es Q))
    (zip l.schemas.items (drop 0 (numbered (map view l.items.items)))) (drop l.i (zip l.schemas.items (drop 0 (numbered (map view l.items.items)))))
    (shown_of l.initial.outcome) (shown_of l.outcome) l.initial.ctx.path l.ctx.path l.initial.ctx.validation l.ctx.validation

abbrev pub decreases-loop-i : goal.decreases-loop-i
decreases-loop-i g l = length l.schemas.items - l.i
