use Rattle.std.specs.List.{flat_map}
use Rattle.serde_json.specs.View.{members_view}
use Rattle.olk_spec.specs.Schemas.{listed}
use Rattle.olk_reports.specs.Evaluations.{shown_of}
use Rattle.olk_tree.specs.Visited.{declared_as}
use Rattle.olk_evaluate.specs.Members.{MeetsMore, wanted_at}
use Rattle.olk_evaluate.proofs.Patterns.{matches_among}
use Rattle.olk_evaluate.proofs.Shows.{LeavesEach}
use Rattle.olk_evaluate.proofs.pattern_properties.show_matched.Given as goal

abbrev pub invariant-loop-name : goal.invariant-loop-name
invariant-loop-name g l =
    LeavesEach (λ u Q xs. MeetsMore (wanted_at g.N.Show.tree g.N.Means.means u Q) (flat_map (λ x. declared_as x.0 l.subschema x.1) xs))
    (λ u. matches_among g.R.RegexEngine.answers u l.pattern (listed (members_view l.members.entries)))
    (λ u. matches_among g.R.RegexEngine.answers u l.pattern (listed (members_view l.name-iterator)))
    (shown_of l.initial.outcome) (shown_of l.outcome) l.initial.ctx.path l.ctx.path l.initial.ctx.validation l.ctx.validation
