use Rattle.std.proofs.Common.{◌≡◌, map, take}
use Rattle.serde_json.specs.View.{view}
use Rattle.olk_drafts.proofs.Translations.{kind_read}
use Rattle.olk_drafts.proofs.translation.listed_kinds_of_draft_4.Given as goal

abbrev pub invariant-loop-value : goal.invariant-loop-value
invariant-loop-value l = map view l.kinds.items ≡ map kind_read (take l.value-index l.value-items)
