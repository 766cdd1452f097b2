use Rattle.std.proofs.Common.{drop, ◌-◌, ◌≤◌, length}
use Rattle.serde_json.specs.View.{view}
use Rattle.olk_documents.specs.Contains.{in_bounds}
use Rattle.olk_documents.proofs.Counted.{CountLeft}
use Rattle.olk_documents.proofs.contains.so_many_accepted.Given as goal

abbrev pub invariant-loop-i : goal.invariant-loop-i
invariant-loop-i g l = record {
  few : l.count ≤ l.i;
  left : CountLeft (λ x. g.N.Means.means l.n (view x)) (in_bounds l.bounds) l.items.items (drop l.i l.items.items) l.count l.initial.ctx l.ctx;
}

abbrev pub decreases-loop-i : goal.decreases-loop-i
decreases-loop-i g l = length l.items.items - l.i
