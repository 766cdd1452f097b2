use Rattle.std.proofs.Common.{map, string_bytes, sym}
use Rattle.olk_build.proofs.ReadEntries.{one_more_text, first_no_text, all_are_texts, none_is_no_text}
use Rattle.olk_build.proofs.Spending.{tells_same}
use Rattle.olk_build.proofs.reading.texts_of_items.Goals as goal

pub loop-item-preserved : goal.loop-item-preserved
loop-item-preserved c =
    one_more_text c.deref-item-items.result.now c.loop-item.item-index c.loop-item.names.items c.append.new.items.items c.item-item.result c.in_ok-from_str.field-0 c.in-Some.text.now c.loop-item-test.true c.item-item.is (sym c.in-Some.ensures) c.in_ok-from_str.ensures.ok c.in_ok-append.ensures.items c.loop-item.invariant

pub returns-in_default-clause-refused : goal.returns-in_default-clause-refused
returns-in_default-clause-refused c =
    tells_same (first_no_text c.deref-item-items.result.now c.loop-item.item-index c.args.items.now.items c.deref-item-items.ensures.value
    (map string_bytes c.loop-item.names.items) c.loop-item.invariant c.args.place.now c.item-item.result c.loop-item-test.true c.item-item.is
    (sym c.in_default.ensures)) c.refuse_type.result c.refuse_type.ensures

pub returns-clause-names : goal.returns-clause-names
returns-clause-names c = all_are_texts c.deref-item-items.result.now c.loop-item.item-index c.args.items.now.items c.deref-item-items.ensures.value
    (map string_bytes c.loop-item.names.items) c.loop-item.invariant c.loop-item-test.false

pub returns-clause-texts : goal.returns-clause-texts
returns-clause-texts c = none_is_no_text c.deref-item-items.result.now c.loop-item.item-index c.args.items.now.items c.deref-item-items.ensures.value
    (map string_bytes c.loop-item.names.items) c.loop-item.invariant c.loop-item-test.false c.args.place.now
