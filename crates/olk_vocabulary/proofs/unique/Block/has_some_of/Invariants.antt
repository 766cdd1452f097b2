use Rattle.std.proofs.Common.{◌≡◌, drop, map}
use Rattle.std.specs.List.{list_any}
use Rattle.serde_json.specs.View.{view}
use Rattle.olk_vocabulary.specs.Blocks.{is_held}
use Rattle.olk_vocabulary.proofs.unique.Block.has_some_of.Given as goal

abbrev pub invariant-loop-item : goal.invariant-loop-item
invariant-loop-item l =
    list_any (λ e. is_held l.self.slots.items e) (map view l.items) ≡ list_any (λ e. is_held l.self.slots.items e) (map view (drop l.item-index l.items))
