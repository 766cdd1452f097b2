use Rattle.std.proofs.Common.{true}
use Rattle.serde_json.specs.View.{members_view}
use Rattle.olk_spec.specs.Schemas.{listed}
use Rattle.olk_reports.specs.Paths.{path_at}
use Rattle.olk_tree.specs.Questions.{always, conditional}
use Rattle.olk_tree.specs.Matched.{match_question}
use Rattle.olk_errors.specs.Outcomes.{of_match}
use Rattle.olk_errors.proofs.Loops.{Walking}
use Rattle.olk_errors.proofs.pattern_properties.walk_matched.Given as goal

abbrev pub invariant-loop-name : goal.invariant-loop-name
invariant-loop-name g l = Walking
    (λ x. conditional (match_question g.R.RegexEngine.answers g.R.RegexEngine.costs l.pattern x.0) (g.N.Means.means l.subschema x.1) (always true))
    (λ u x. (of_match g.R.RegexEngine.answers g.R.RegexEngine.costs g.N.Means.means g.N.Reports.first g.N.Reports.report u l.pattern l.subschema x.0 x.1 (path_at l.trail)).first)
    (λ u x. (of_match g.R.RegexEngine.answers g.R.RegexEngine.costs g.N.Means.means g.N.Reports.first g.N.Reports.report u l.pattern l.subschema x.0 x.1 (path_at l.trail)).all)
    (listed (members_view l.members.entries)) (listed (members_view l.name-iterator)) l.initial.sink l.sink l.initial.ctx l.ctx
