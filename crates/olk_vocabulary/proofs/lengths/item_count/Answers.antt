use Rattle.std.proofs.Common.{◌≡◌, Some, option_map, length, ap, sym, ◌∙◌, rules}
use Rattle.serde_json.specs.Find.{as_array}
use Rattle.serde_json.specs.View.{view}
use Rattle.serde_json.specs.declared.value.Value.TheVariants.{Array}
use Rattle.serde_json.proofs.Views.{view-Array}
use Rattle.olk_base.specs.Nodes.{data_of}
use Rattle.olk_spec.specs.Malformed.{items_list}
use Rattle.olk_vocabulary.proofs.Lists.{items_size}
use Rattle.olk_vocabulary.proofs.lengths.item_count.Goals as goal

pub returns-in-Value-Array : goal.returns-in-Value-Array
returns-in-Value-Array c =
    let items = c.in-Value-Array.items in
    let is : c.in-Value-Array.field-0.now ≡ Array items = search rules in
    let value = ap data_of c.in-Value-Array.is ∙ ap view is ∙ view-Array items in
    let count = c.len.ensures ∙ items.ok.0 ∙ sym (items_size items.items) in
    ap Some count ∙ ap (λ d. option_map (λ ds. length (items_list ds)) (as_array d)) (sym value)
