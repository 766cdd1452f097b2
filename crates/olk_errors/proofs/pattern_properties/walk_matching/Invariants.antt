use Rattle.std.proofs.Common.{drop, true}
use Rattle.serde_json.specs.View.{view}
use Rattle.olk_reports.specs.Paths.{path_at}
use Rattle.olk_tree.specs.Questions.{always, conditional}
use Rattle.olk_tree.specs.Matched.{match_question}
use Rattle.olk_errors.specs.Outcomes.{of_match}
use Rattle.olk_errors.proofs.Loops.{Walking}
use Rattle.olk_errors.proofs.pattern_properties.walk_matching.Given as goal

abbrev pub invariant-loop-entry : goal.invariant-loop-entry
invariant-loop-entry g l = Walking
    (λ e. conditional (match_question g.R.RegexEngine.answers g.R.RegexEngine.costs e.0 l.name) (g.N.Means.means e.1 (view l.value)) (always true))
    (λ u e. (of_match g.R.RegexEngine.answers g.R.RegexEngine.costs g.N.Means.means g.N.Reports.first g.N.Reports.report u e.0 e.1 l.name (view l.value) (path_at l.trail)).first)
    (λ u e. (of_match g.R.RegexEngine.answers g.R.RegexEngine.costs g.N.Means.means g.N.Reports.first g.N.Reports.report u e.0 e.1 l.name (view l.value) (path_at l.trail)).all)
    l.patterns.items (drop l.entry-index l.patterns.items) l.initial.sink l.sink l.initial.ctx l.ctx
