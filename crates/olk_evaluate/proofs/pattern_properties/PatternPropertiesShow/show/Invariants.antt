use Rattle.std.proofs.Common.{drop}
use Rattle.olk_reports.specs.Evaluations.{shown_of}
use Rattle.olk_tree.specs.Visited.{object_of}
use Rattle.olk_evaluate.specs.Members.{MeetsMore, wanted_at}
use Rattle.olk_evaluate.specs.Patterns.{matches_of_all}
use Rattle.olk_evaluate.proofs.Shows.{Leaves}
use Rattle.olk_evaluate.proofs.pattern_properties.PatternPropertiesShow.show.Given as goal

abbrev pub invariant-loop-entry : goal.invariant-loop-entry
invariant-loop-entry g l =
    Leaves (λ u Q es. MeetsMore (wanted_at g.N.Show.tree g.N.Means.means u Q) (matches_of_all g.R.RegexEngine.answers u es (object_of l.members.entries))) l.self.patterns.items
    (drop l.entry-index l.self.patterns.items) (shown_of l.initial.outcome) (shown_of l.outcome) l.initial.ctx.path l.ctx.path l.initial.ctx.validation l.ctx.validation
