use Rattle.std.proofs.Common.{drop}
use Rattle.olk_base.specs.Nodes.{subject_data}
use Rattle.olk_reports.specs.Evaluations.{shown_of}
use Rattle.olk_evaluate.specs.Wanted.{ShowsMore, each_wanted}
use Rattle.olk_evaluate.proofs.Shows.{Leaves}
use Rattle.olk_evaluate.proofs.walk.show_each.Given as goal

abbrev pub invariant-loop-schema : goal.invariant-loop-schema
invariant-loop-schema g l =
    Leaves (λ u Q ns. ShowsMore (each_wanted g.N.Show.tree g.N.Means.means u ns (subject_data l.node) Q)) l.schemas.items (drop l.schema-index l.schemas.items)
    (shown_of l.initial.outcome) (shown_of l.outcome) l.initial.ctx.path l.ctx.path l.initial.ctx.validation l.ctx.validation
