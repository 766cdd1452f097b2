use Rattle.std.proofs.Common.{ap, sym, ◌∙◌}
use Rattle.std.specs.Option.{option_copied}
use Rattle.olk_tree.proofs.Walked.{member_met, member_passed, no_member_left}
use Rattle.olk_tree.proofs.declared.next_member.Goals as goal

pub returns-in-Some-found : goal.returns-in-Some-found
returns-in-Some-found g c =
    c.loop-name.invariant ∙ member_met c.args.entries.now c.as_str-name.result.now c.in-Some.ensures.steps c.as_str-name.ensures.value c.in-Some-found.node.now
    (sym (ap option_copied c.in-Some-found.is) ∙ c.node_from-next.ensures)

pub loop-name-preserved : goal.loop-name-preserved
loop-name-preserved g c =
    c.loop-name.invariant ∙ member_passed c.args.entries.now c.as_str-name.result.now c.in-Some.ensures.steps c.as_str-name.ensures.value
    (sym (ap option_copied c.in_default-found.is) ∙ c.node_from-next.ensures)

pub returns : goal.returns
returns g c = c.loop-name.invariant ∙ no_member_left c.args.entries.now c.in_default.ensures.steps.0
