use Rattle.olk_check.proofs.Asked.{asks_as}
use Rattle.std.proofs.Common.{[], ◌∷◌}
use Rattle.olk_spec.specs.Names.{is_empty}
use Rattle.olk_spec.specs.Accepts.{missing}
use Rattle.olk_tree.specs.Properties.{properties_mean}
use Rattle.olk_tree.specs.Questions.{always, both}
use Rattle.olk_tree.specs.Visited.{object_of}
use Rattle.olk_check.proofs.Answered.{answered_one}
use Rattle.olk_check.proofs.properties.members_accepted_with_both.Goals as goal

pub returns : goal.returns
returns g c =
    let v = object_of c.args.members.now.entries in
    answered_one c.one_if.ensures (asks_as (λ i. both (always (is_empty (missing (c.as_str-first.ensures.value i ∷ c.as_str-second.ensures.value i ∷ []) v)))
    (properties_mean g.N.Means.means (c.as_map.ensures i) v)) c.all_accepted_with_both.ensures)
