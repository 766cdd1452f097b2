use Rattle.std.proofs.Common.{◌<◌, None, length, refl, arith}
use Rattle.serde_json.specs.View.{members_view}
use Rattle.olk_spec.specs.Schemas.{listed}
use Rattle.olk_meaning.proofs.Listed.{listed_length}
use Rattle.olk_tree.proofs.Merge.{sorted_rising}
use Rattle.olk_tree.proofs.Walked.{keys_rising}
use Rattle.olk_check.proofs.Unpatterned.{crowded}
use Rattle.olk_check.proofs.additional_properties.declared_alone.Goals as goal

pub returns-then-len : goal.returns-then-len
returns-then-len g c =
    let declared = c.args.properties in
    let entries = c.args.members.now.entries in
    let fewer : length declared < length (listed (members_view entries)) =
    let many = c.len.ensures.len in
    let there = c.len-2.ensures.at_least in
    let more = c.if-len.true in
    let listed_each = listed_length entries in
    omega arith in
    crowded g.N.Means.means None refl declared (listed (members_view entries)) (keys_rising declared c.len-2.ensures.ordered) (sorted_rising entries c.len.ensures.ordered) fewer c.args.ctx.now
