use Rattle.std.proofs.Common.{◌≡◌, map, ap, sym, ◌∙◌, rules}
use Rattle.serde_json.specs.View.{view}
use Rattle.serde_json.specs.declared.value.Value.TheVariants.{Array}
use Rattle.serde_json.proofs.Views.{view-Array}
use Rattle.olk_base.specs.Nodes.{data_of}
use Rattle.olk_spec.proofs.Maps.{items_list-view}
use Rattle.olk_vocabulary.specs.Unique.{are_unique, has_unique_items}
use Rattle.olk_vocabulary.proofs.unique.has_unique_items.Goals as goal

pub returns-in-Value-Array : goal.returns-in-Value-Array
returns-in-Value-Array c =
    let items = c.in-Value-Array.items in
    let is : c.in-Value-Array.field-0.now ≡ Array items = search rules in
    let value = ap data_of c.in-Value-Array.is ∙ ap view is ∙ view-Array items in
    let given : c.deref.result.now ≡ items.items = search rules in
    c.are_unique.ensures ∙ ap (λ vs. are_unique (map view vs)) given ∙ ap are_unique (sym (items_list-view items.items)) ∙ ap has_unique_items (sym value)
