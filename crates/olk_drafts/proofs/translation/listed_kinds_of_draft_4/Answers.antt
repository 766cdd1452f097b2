use Rattle.std.proofs.Common.{◌∙◌, ap}
use Rattle.serde_json.specs.View.{items_view}
use Rattle.olk_drafts.specs.Translated.{listed_kinds_of_draft_4}
use Rattle.olk_drafts.proofs.Translations.{kind_read, kinds_listed, all_items}
use Rattle.olk_drafts.proofs.translation.listed_kinds_of_draft_4.Goals as goal

pub returns : goal.returns
returns c =
    all_items kind_read c.loop-value.kinds.items c.deref-value-items.result.now c.loop-value.value-index c.loop-value.invariant c.loop-value-test.false
    ∙ kinds_listed c.deref-value-items.result.now
    ∙ ap (λ vs. listed_kinds_of_draft_4 (items_view vs)) c.deref-value-items.ensures.value
