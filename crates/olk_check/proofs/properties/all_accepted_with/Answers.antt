use Rattle.std.proofs.Common.{sym, ◌∙◌}
use Rattle.serde_json.specs.View.{members_view}
use Rattle.olk_tree.specs.Properties.{properties_mean}
use Rattle.olk_tree.specs.Visited.{object_of}
use Rattle.olk_tree.proofs.Members_met.{means_of_members}
use Rattle.olk_tree.proofs.Walked.{walks_agree}
use Rattle.olk_check.proofs.Missing.{one_met}
use Rattle.olk_check.proofs.Together.{both_where, refused_where}
use Rattle.olk_check.proofs.properties.all_accepted_with.Goals as goal

pub returns-then-len : goal.returns-then-len
returns-then-len g c =
    let declared = c.args.properties in
    rw (← means_of_members (members_view c.args.members.now.entries) g.N.Means.means declared (walks_agree declared c.args.members.now.entries c.len-2.ensures.ordered c.len.ensures.ordered))
    (rw (← c.entries.ensures) c.each_member_accepted_with.ensures)

pub returns-then-is_present : goal.returns-then-is_present
returns-then-is_present g c = both_where c.each_name_accepted.ensures (sym (one_met c.args.name.now c.is_present.ensures) ∙ c.if-is_present.true)

pub returns-else-is_present : goal.returns-else-is_present
returns-else-is_present g c =
    rw c.if-is_present.false
    (refused_where c.args.ctx.now (properties_mean g.N.Means.means c.args.properties (object_of c.args.members.now.entries)) (sym (one_met c.args.name.now c.is_present.ensures) ∙ c.if-is_present.false))
