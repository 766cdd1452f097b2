use Rattle.std.specs.List.{flat_map}
use Rattle.olk_base.specs.Nodes.{subject_data}
use Rattle.olk_reports.specs.Evaluations.{shown_of}
use Rattle.olk_tree.specs.Visited.{left_of}
use Rattle.olk_tree.proofs.Due.{chosen}
use Rattle.olk_evaluate.specs.Wanted.{ShowsMore, each_wanted}
use Rattle.olk_evaluate.proofs.Shows.{Leaves}
use Rattle.olk_evaluate.proofs.property_dependencies.PropertyDependenciesShow.show.Given as goal

abbrev pub invariant-loop-choices : goal.invariant-loop-choices
invariant-loop-choices g l =
    Leaves (λ u Q ns. ShowsMore (each_wanted g.N.Show.tree g.N.Means.means u ns (subject_data l.node) Q)) (flat_map chosen (left_of l.initial.choices-iterator)) (flat_map chosen (left_of l.choices-iterator))
    (shown_of l.initial.outcome) (shown_of l.outcome) l.initial.ctx.path l.ctx.path l.initial.ctx.validation l.ctx.validation
