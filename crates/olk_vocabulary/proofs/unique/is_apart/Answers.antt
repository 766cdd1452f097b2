use Rattle.std.proofs.Common.{◌+◌, map, ap, ◌∙◌}
use Rattle.serde_json.specs.View.{view}
use Rattle.olk_vocabulary.proofs.Blocks.{old_one, new_one}
use Rattle.olk_vocabulary.proofs.Uniques.{repeats, held_more, apart_more}
use Rattle.olk_vocabulary.proofs.unique.is_apart.Goals as goal

pub returns-then-not-insert : goal.returns-then-not-insert
returns-then-not-insert c =
    let there = old_one _ _ c.insert.ensures.new c.if-not-insert.true in
    repeats c.loop-item.kept.slots.items c.args.block.now (map view c.args.behind.now) c.loop-item.item-index c.item-item.result c.loop-item-test.true c.item-item.is there c.loop-item.invariant.held

pub loop-item-preserved : goal.loop-item-preserved
loop-item-preserved c =
    let before = c.loop-item.invariant in
    let old = c.loop-item.kept.slots.items in
    let fresh = new_one _ _ c.insert.ensures.new c.if-not-insert.false in
    let more = c.insert.ensures.held c.if-not-insert.false in
    record {
      room = c.insert.ensures.len c.if-not-insert.false ∙ ap (λ n. n + 1) before.room;
      held = held_more old c.insert.new.self.slots.items c.args.block.now c.loop-item.item-index c.item-item.result c.loop-item-test.true c.item-item.is more before.held;
      apart = apart_more old c.args.block.now c.loop-item.item-index c.item-item.result c.loop-item-test.true c.item-item.is fresh before.held before.apart;
    }
