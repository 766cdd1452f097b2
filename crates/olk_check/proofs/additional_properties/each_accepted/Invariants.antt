use Rattle.serde_json.specs.View.{members_view}
use Rattle.olk_spec.specs.Schemas.{listed}
use Rattle.olk_tree.specs.Additional.{member_means, sides_seen}
use Rattle.olk_check.proofs.Walks.{AllLeft}
use Rattle.olk_check.proofs.additional_properties.each_accepted.Given as goal

abbrev pub invariant-loop-name : goal.invariant-loop-name
invariant-loop-name g l =
    AllLeft (λ x. member_means g.R.RegexEngine.answers g.R.RegexEngine.costs g.N.Means.means (sides_seen l.sides) x.0 x.1) (listed (members_view l.members.entries))
    (listed (members_view l.name-iterator)) l.initial.ctx l.ctx
