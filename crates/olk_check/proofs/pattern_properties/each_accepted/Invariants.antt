use Rattle.std.proofs.Common.{true}
use Rattle.serde_json.specs.View.{members_view}
use Rattle.olk_spec.specs.Schemas.{listed}
use Rattle.olk_tree.specs.Questions.{always, conditional}
use Rattle.olk_tree.specs.Matched.{match_question}
use Rattle.olk_check.proofs.Walks.{AllLeft}
use Rattle.olk_check.proofs.pattern_properties.each_accepted.Given as goal

abbrev pub invariant-loop-name : goal.invariant-loop-name
invariant-loop-name g l =
    AllLeft (λ x. conditional (match_question g.R.RegexEngine.answers g.R.RegexEngine.costs l.pattern x.0) (g.N.Means.means l.subschema x.1) (always true))
    (listed (members_view l.members.entries)) (listed (members_view l.name-iterator)) l.initial.ctx l.ctx
