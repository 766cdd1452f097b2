use Rattle.std.proofs.Common.{◌≡◌, take, drop, map}
use Rattle.serde_json.specs.View.{view}
use Rattle.olk_vocabulary.specs.Keywords.{name_kinds}
use Rattle.olk_vocabulary.specs.Leaves.{kind_value}
use Rattle.olk_vocabulary.proofs.kinds.kinds_of.Given as goal

abbrev pub invariant-loop-item : goal.invariant-loop-item
invariant-loop-item l = record {
  names : name_kinds (map view l.item-items) ≡ name_kinds (map view (drop l.item-index l.item-items));
  made : map kind_value l.kinds.items ≡ map view (take l.item-index l.item-items);
}
