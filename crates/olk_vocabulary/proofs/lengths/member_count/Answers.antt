use Rattle.std.proofs.Common.{◌≡◌, Some, option_map, length, ap, sym, ◌∙◌, rules}
use Rattle.serde_json.specs.Find.{as_object}
use Rattle.serde_json.specs.View.{view}
use Rattle.serde_json.specs.declared.value.Value.TheVariants.{Object}
use Rattle.serde_json.proofs.Views.{view-Object}
use Rattle.olk_base.specs.Nodes.{data_of}
use Rattle.olk_spec.specs.Schemas.{listed}
use Rattle.olk_meaning.proofs.Listed.{listed_length}
use Rattle.olk_vocabulary.proofs.lengths.member_count.Goals as goal

pub returns-in-Value-Object : goal.returns-in-Value-Object
returns-in-Value-Object c =
    let members = c.in-Value-Object.members in
    let is : c.in-Value-Object.field-0.now ≡ Object members = search rules in
    let value = ap data_of c.in-Value-Object.is ∙ ap view is ∙ view-Object members in
    let count = c.len.ensures.len ∙ sym (listed_length members.entries) in
    ap Some count ∙ ap (λ d. option_map (λ ms. length (listed ms)) (as_object d)) (sym value)
