use Rattle.olk_check.proofs.Asked.{asks_as}
use Rattle.serde_json.specs.View.{members_view}
use Rattle.olk_tree.proofs.Members_met.{means_of_members}
use Rattle.olk_tree.proofs.Walked.{walks_agree}
use Rattle.olk_check.proofs.properties.all_accepted.Goals as goal

pub returns-then-len : goal.returns-then-len
returns-then-len g c =
    let declared = c.args.properties in
    asks_as (means_of_members (members_view c.args.members.now.entries) g.N.Means.means declared (walks_agree declared c.args.members.now.entries c.len-2.ensures.ordered c.len.ensures.ordered))
    (rw (← c.entries.ensures) c.each_member_accepted.ensures)
