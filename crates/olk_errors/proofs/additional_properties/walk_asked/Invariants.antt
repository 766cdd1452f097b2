use Rattle.std.proofs.Common.{ℕ, option_map}
use Rattle.serde_json.specs.View.{view}
use Rattle.olk_reports.specs.Paths.{path_at}
use Rattle.olk_tree.specs.Additional.{sides_seen}
use Rattle.olk_errors.proofs.Additional.{WalkingMember, asked_member}
use Rattle.olk_errors.proofs.additional_properties.walk_asked.Given as goal

abbrev pub invariant-loop-index : goal.invariant-loop-index
invariant-loop-index g l = WalkingMember
    (asked_member g.R.RegexEngine.answers g.N.Means.means g.N.Reports.first g.N.Reports.report (sides_seen l.sides) (option_map {U = ℕ × g.row.N.Denot} (λ f. (f.0, f.1.now)) l.declared) l.name (view l.value))
    (path_at l.trail) l.spoken l.index l.fn.sink l.sink l.fn.ctx l.ctx
