use Rattle.std.proofs.Common.{◌≡◌, drop}
use Rattle.serde_json.specs.View.{items_view}
use Rattle.olk_build.proofs.ReadEntries.{meets_again}
use Rattle.olk_spec.specs.{Schemas.texts_in, Malformed.has_repeat}
use Rattle.olk_build.proofs.dependencies.has_repeated_text.Given as goal

-- a text is repeated among all where one is met again among the items left
abbrev pub invariant-loop-item : goal.invariant-loop-item
invariant-loop-item l = meets_again l.seen (drop l.item-index l.items) ≡ has_repeat (texts_in (items_view l.items))
