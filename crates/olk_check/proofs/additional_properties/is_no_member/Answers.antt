use Rattle.std.proofs.Common.{nat_eq, sym, ap, ◌∙◌}
use Rattle.serde_json.specs.View.{members_view}
use Rattle.olk_spec.specs.Names.{is_empty}
use Rattle.olk_spec.specs.Schemas.{listed, members}
use Rattle.olk_meaning.proofs.Listed.{listed_length}
use Rattle.olk_tree.proofs.Members_met.{object_is}
use Rattle.olk_check.proofs.Beside.{length_zero}
use Rattle.olk_check.proofs.additional_properties.is_no_member.Goals as goal

pub returns-in-Some : goal.returns-in-Some
returns-in-Some g c =
    let entries = c.in-Some.members.now.entries in
    ap (λ n. nat_eq n 0) (c.len.ensures.len ∙ sym (listed_length entries)) ∙ length_zero (listed (members_view entries))
    ∙ ap (λ v. is_empty (members v)) (object_is (g.A.Asked.stands_for c.args.asked) (members_view entries) c.in-Some.ensures)
