use Rattle.std.proofs.Common.{[], ◌∷◌, None}
use Rattle.olk_spec.specs.Names.{is_empty}
use Rattle.olk_spec.specs.Accepts.{missing}
use Rattle.olk_tree.specs.Questions.{always, both}
use Rattle.olk_tree.specs.Visited.{object_of}
use Rattle.olk_check.specs.Unpatterned.{names_mean}
use Rattle.olk_check.proofs.Answered.{answered_one}
use Rattle.olk_check.proofs.Asked.{asks_as}
use Rattle.olk_check.proofs.additional_properties.all_declared.Goals as goal

pub returns : goal.returns
returns g c =
    let v = object_of c.args.members.now.entries in
    answered_one c.one_if.ensures (asks_as (λ i. both (names_mean g.N.Means.means (c.entries.ensures i) None v)
    (always (is_empty (missing (c.args.required.now ∷ []) v)))) c.each_declared_with.ensures)
