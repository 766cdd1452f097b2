use Rattle.std.proofs.Common.{List, drop, Bool}
use Rattle.olk_base.specs.Nodes.{subject_data}
use Rattle.olk_spec.specs.Names.{filter_once}
use Rattle.olk_reports.specs.Evaluations.{shown_of}
use Rattle.olk_evaluate.specs.Wanted.{ShowsMore, each_wanted}
use Rattle.olk_evaluate.proofs.Shows.{LeavesEach}
use Rattle.olk_evaluate.proofs.any_of.show_accepting.Given as goal

abbrev pub invariant-loop-schema : goal.invariant-loop-schema
invariant-loop-schema g l =
    let those : Bool → List g.row.N.Denot → List g.row.N.Denot = λ u. filter_once (λ n. (g.N.Means.means n (subject_data l.node)).accepts u) in
    LeavesEach (λ u Q ns. ShowsMore (each_wanted g.N.Show.tree g.N.Means.means u ns (subject_data l.node) Q)) (λ u. those u l.schemas.items) (λ u. those u (drop l.schema-index l.schemas.items))
    (shown_of l.initial.outcome) (shown_of l.outcome) l.initial.ctx.path l.ctx.path l.initial.ctx.validation l.ctx.validation
