use Rattle.std.proofs.Common.{drop, ◌-◌, length}
use Rattle.std.specs.List.{zip}
use Rattle.serde_json.specs.View.{view}
use Rattle.olk_check.proofs.Walks.{AllLeft}
use Rattle.olk_documents.proofs.arrays.pairs_accepted.Given as goal

abbrev pub invariant-loop-i : goal.invariant-loop-i
invariant-loop-i g l = AllLeft (λ e. g.N.Means.means e.0 (view e.1)) (zip l.schemas.items l.items.items) (drop l.i (zip l.schemas.items l.items.items)) l.initial.ctx l.ctx

abbrev pub decreases-loop-i : goal.decreases-loop-i
decreases-loop-i g l = length l.schemas.items - l.i
