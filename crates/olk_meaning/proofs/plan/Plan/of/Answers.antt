use Rattle.std.proofs.Common.{arith}
use Rattle.serde_json.specs.View.{members_view}
use Rattle.olk_meaning.proofs.Fused.{few_are_planned}
use Rattle.olk_meaning.proofs.Listed.{listed_length, sorted_distinct}
use Rattle.olk_meaning.proofs.plan.Plan.of.Goals as goal

pub returns-then-count-lt2-clause-plan : goal.returns-then-count-lt2-clause-plan
returns-then-count-lt2-clause-plan c =
    let l = listed_length c.args.members.now.entries in
    few_are_planned (members_view c.args.members.now.entries) (omega (arith, l, c.len-count.ensures.len, c.if-count-lt2.true))
    c.is_restricted-restricted.result c.is_restricted-restricted.ensures

pub returns-then-count-lt2-clause-distinct : goal.returns-then-count-lt2-clause-distinct
returns-then-count-lt2-clause-distinct c = sorted_distinct c.args.members.now.entries c.len-count.ensures.ordered

pub returns-clause-distinct : goal.returns-clause-distinct
returns-clause-distinct c = sorted_distinct c.args.members.now.entries c.len-count.ensures.ordered
