use Rattle.std.proofs.Common.{◌≡◌, true, take, map}
use Rattle.arrayvec.specs.ArrayVec.{array_vec_len}
use Rattle.serde_json.specs.Data.{Data}
use Rattle.serde_json.specs.View.{view}
use Rattle.olk_vocabulary.specs.Unique.{are_unique}
use Rattle.olk_vocabulary.specs.Blocks.{has_same, is_held}
use Rattle.olk_vocabulary.proofs.unique.is_apart.Given as goal

abbrev pub invariant-loop-item : goal.invariant-loop-item
invariant-loop-item l = record {
  room : array_vec_len l.kept.slots ≡ l.item-index;
  held : (v : Data) → is_held l.kept.slots.items v ≡ has_same (map view (take l.item-index l.block)) v;
  apart : are_unique (map view (take l.item-index l.block)) ≡ true;
}
