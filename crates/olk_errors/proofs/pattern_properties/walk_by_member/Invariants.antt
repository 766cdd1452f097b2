use Rattle.std.proofs.Common.{true}
use Rattle.serde_json.specs.View.{members_view}
use Rattle.olk_spec.specs.Schemas.{listed}
use Rattle.olk_reports.specs.Paths.{path_at}
use Rattle.olk_tree.specs.Questions.{always, conditional, every}
use Rattle.olk_tree.specs.Matched.{match_question}
use Rattle.olk_errors.specs.Outcomes.{of_matching}
use Rattle.olk_errors.proofs.Loops.{Walking}
use Rattle.olk_errors.proofs.pattern_properties.walk_by_member.Given as goal

abbrev pub invariant-loop-name : goal.invariant-loop-name
invariant-loop-name g l = Walking
    (λ x. every (λ e. conditional (match_question g.R.RegexEngine.answers g.R.RegexEngine.costs e.0 x.0) (g.N.Means.means e.1 x.1) (always true)) l.patterns.items)
    (λ u x. (of_matching g.R.RegexEngine.answers g.R.RegexEngine.costs g.N.Means.means g.N.Reports.first g.N.Reports.report u l.patterns.items x.0 x.1 (path_at l.trail)).first)
    (λ u x. (of_matching g.R.RegexEngine.answers g.R.RegexEngine.costs g.N.Means.means g.N.Reports.first g.N.Reports.report u l.patterns.items x.0 x.1 (path_at l.trail)).all)
    (listed (members_view l.members.entries)) (listed (members_view l.name-iterator)) l.initial.sink l.sink l.initial.ctx l.ctx
