use Rattle.std.proofs.Common.{refl, ap, ◌∙◌}
use Rattle.serde_json.specs.View.{view, members_view}
use Rattle.olk_spec.specs.Schemas.{listed}
use Rattle.olk_tree.specs.Visited.{names_met}
use Rattle.olk_tree.proofs.Walked.{name_met, name_passed}
use Rattle.olk_tree.proofs.declared.next_name.Goals as goal

pub returns-in-Some-member : goal.returns-in-Some-member
returns-in-Some-member g c =
    let member = view c.in-Some-member.value.now in
    c.loop-name.invariant ∙ name_met _ _ _ c.in-Some.ensures.steps member _ refl c.in-Some-member.ensures

pub loop-name-preserved : goal.loop-name-preserved
loop-name-preserved g c = c.loop-name.invariant ∙ name_passed (listed _) _ _ c.in-Some.ensures.steps c.in_default-member.ensures

pub returns : goal.returns
returns g c = c.loop-name.invariant ∙ ap (λ es. names_met es (listed (members_view c.args.members.now.entries))) c.in_default.ensures.steps
