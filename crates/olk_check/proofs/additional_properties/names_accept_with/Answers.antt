use Rattle.std.proofs.Common.{[], ◌∷◌, None, subst, string_bytes, ◌∙◌}
use Rattle.serde_json.specs.View.{members_view}
use Rattle.olk_spec.specs.Names.{is_empty}
use Rattle.olk_spec.specs.Accepts.{missing}
use Rattle.olk_tree.specs.Questions.{always, both}
use Rattle.olk_tree.specs.Visited.{object_of}
use Rattle.olk_tree.proofs.Members_met.{object_is}
use Rattle.olk_check.specs.Together.{AsksOne}
use Rattle.olk_check.specs.Unpatterned.{names_mean, declared_mean}
use Rattle.olk_check.proofs.Beside.{names_declared}
use Rattle.olk_check.proofs.additional_properties.names_accept_with.Goals as goal

pub returns-in-Some : goal.returns-in-Some
returns-in-Some g c =
    let v = object_of c.in-Some.members.now.entries in
    subst (λ v. AsksOne c.args.ctx.now c.declared_accept_with.new.ctx (both (declared_mean g.N.Means.means c.args.properties.now None v)
    (always (is_empty (missing (string_bytes c.args.required.now ∷ []) v)))) c.declared_accept_with.result)
    (object_is (g.A.Asked.stands_for c.args.asked) (members_view c.in-Some.members.now.entries) c.in-Some.ensures)
    (subst (λ q. AsksOne c.args.ctx.now c.declared_accept_with.new.ctx q c.declared_accept_with.result)
    ((λ i. both (names_mean g.N.Means.means (c.as_map.ensures i) None v) (always (is_empty (missing (c.as_str.ensures.value i ∷ []) v))))
    ∙ (λ i. both (names_declared g.N.Means.means c.args.properties.now None v c.law_of_names.ensures i) (always (is_empty (missing (string_bytes c.args.required.now ∷ []) v)))))
    c.declared_accept_with.ensures)
