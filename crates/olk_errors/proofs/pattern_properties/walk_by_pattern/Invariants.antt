use Rattle.std.proofs.Common.{drop}
use Rattle.olk_reports.specs.Paths.{path_at}
use Rattle.olk_tree.specs.Visited.{object_of}
use Rattle.olk_tree.specs.PatternProperties.{matched_mean}
use Rattle.olk_errors.specs.Outcomes.{of_matched}
use Rattle.olk_errors.proofs.Loops.{Walking}
use Rattle.olk_errors.proofs.pattern_properties.walk_by_pattern.Given as goal

abbrev pub invariant-loop-entry : goal.invariant-loop-entry
invariant-loop-entry g l = Walking
    (λ e. matched_mean g.R.RegexEngine.answers g.R.RegexEngine.costs g.N.Means.means e.0 e.1 (object_of l.members.entries))
    (λ u e. (of_matched g.R.RegexEngine.answers g.R.RegexEngine.costs g.N.Means.means g.N.Reports.first g.N.Reports.report u e.0 e.1 (object_of l.members.entries) (path_at l.trail)).first)
    (λ u e. (of_matched g.R.RegexEngine.answers g.R.RegexEngine.costs g.N.Means.means g.N.Reports.first g.N.Reports.report u e.0 e.1 (object_of l.members.entries) (path_at l.trail)).all)
    l.patterns.items (drop l.entry-index l.patterns.items) l.initial.sink l.sink l.initial.ctx l.ctx
