use Rattle.std.proofs.Common.{map}
use Rattle.serde_json.specs.Data.{string}
use Rattle.serde_json.specs.View.{members_view}
use Rattle.olk_spec.specs.Schemas.{listed}
use Rattle.olk_reports.specs.Evaluations.{shown_of}
use Rattle.olk_evaluate.specs.Wanted.{ShowsMore, wanted}
use Rattle.olk_evaluate.proofs.Shows.{Leaves}
use Rattle.olk_evaluate.proofs.property_names.PropertyNamesShow.show.Given as goal

abbrev pub invariant-loop-name : goal.invariant-loop-name
invariant-loop-name g l =
    Leaves (λ u Q xs. ShowsMore (map (λ x. wanted g.N.Show.tree g.N.Means.means u l.self.node (string x.0) Q) xs)) (listed (members_view l.initial.name-iterator)) (listed (members_view l.name-iterator))
    (shown_of l.initial.outcome) (shown_of l.outcome) l.initial.ctx.path l.ctx.path l.initial.ctx.validation l.ctx.validation
