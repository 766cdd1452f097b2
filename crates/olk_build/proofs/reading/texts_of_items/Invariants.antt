use Rattle.std.proofs.Common.{map, take, string_bytes}
use Rattle.serde_json.specs.View.{view}
use Rattle.olk_build.proofs.ReadEntries.{AllTexts}
use Rattle.olk_build.proofs.reading.texts_of_items.Given as goal

-- the items so far are texts, and these are their names
abbrev pub invariant-loop-item : goal.invariant-loop-item
invariant-loop-item l = AllTexts (map view (take l.item-index l.item-items)) (map string_bytes l.names.items)
