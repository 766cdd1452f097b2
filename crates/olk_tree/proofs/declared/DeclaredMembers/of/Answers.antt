use Rattle.std.proofs.Common.{sym, ap, ◌∙◌}
use Rattle.serde_json.specs.View.{members_view}
use Rattle.olk_spec.specs.Schemas.{listed}
use Rattle.olk_tree.specs.Visited.{members_declared, names_met}
use Rattle.olk_tree.proofs.Walked.{either_side, walks_agree}
use Rattle.olk_tree.proofs.declared.DeclaredMembers.of.Goals as goal

pub returns-clause-by_members : goal.returns-clause-by_members
returns-clause-by_members g c =
    let ms = listed (members_view c.args.members.now.entries) in
    let agree = walks_agree c.args.entries c.args.members.now.entries c.len-2.ensures.ordered c.len.ensures.ordered in
    either_side _ _ _ _ (ap (λ l. members_declared c.args.entries (listed (members_view l))) c.iter-2.ensures.rest)
    (ap (λ l. names_met l ms) c.iter.ensures ∙ agree)

pub returns-clause-by_names : goal.returns-clause-by_names
returns-clause-by_names g c =
    let ms = listed (members_view c.args.members.now.entries) in
    let agree = walks_agree c.args.entries c.args.members.now.entries c.len-2.ensures.ordered c.len.ensures.ordered in
    either_side _ _ _ _ (ap (λ l. members_declared c.args.entries (listed (members_view l))) c.iter-2.ensures.rest ∙ sym agree)
    (ap (λ l. names_met l ms) c.iter.ensures)
