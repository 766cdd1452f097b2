use Rattle.std.proofs.Common.{option_to_list}
use Rattle.serde_json.specs.View.{members_view}
use Rattle.olk_spec.specs.Names.{lookup_name}
use Rattle.olk_spec.specs.Schemas.{listed}
use Rattle.olk_tree.specs.Questions.{every}
use Rattle.olk_check.proofs.Walks.{AllLeft}
use Rattle.olk_check.proofs.properties.each_member_accepted.Given as goal

abbrev pub invariant-loop-name : goal.invariant-loop-name
invariant-loop-name g l =
    AllLeft (λ x. every (λ n. g.N.Means.means n x.1) (option_to_list (lookup_name x.0
    l.properties))) (listed (members_view l.members.entries))
    (listed (members_view l.name-iterator)) l.initial.ctx l.ctx
