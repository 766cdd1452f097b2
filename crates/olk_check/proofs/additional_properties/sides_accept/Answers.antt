use Rattle.std.proofs.Common.{true, subst, refl}
use Rattle.serde_json.specs.View.{members_view}
use Rattle.olk_tree.specs.Additional.{additional_means, sides_seen}
use Rattle.olk_tree.specs.Questions.{always, both}
use Rattle.olk_tree.specs.Visited.{object_of}
use Rattle.olk_tree.proofs.Members_met.{object_is}
use Rattle.olk_check.specs.Asks.{Asks}
use Rattle.olk_check.proofs.Asked.{asks_as}
use Rattle.olk_check.proofs.Together.{each_is_all, both_where}
use Rattle.olk_check.proofs.additional_properties.sides_accept.Goals as goal

pub returns-in-Some : goal.returns-in-Some
returns-in-Some g c =
    subst (λ v. Asks c.args.ctx.now c.each_accepted.new.ctx (both (additional_means g.R.RegexEngine.answers g.R.RegexEngine.costs g.N.Means.means (sides_seen c.args.sides) v) (always true)) c.each_accepted.result)
    (object_is (g.A.Asked.stands_for c.args.asked) (members_view c.in-Some.members.now.entries) c.in-Some.ensures)
    (both_where (asks_as (each_is_all g.R.RegexEngine.answers g.R.RegexEngine.costs g.N.Means.means (sides_seen c.args.sides) (object_of c.in-Some.members.now.entries) c.law_of_names.ensures) c.each_accepted.ensures) refl)
