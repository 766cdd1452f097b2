use Rattle.std.proofs.Common.{◌+◌, drop, sym, ap, ◌∙◌}
use Rattle.olk_build.proofs.ReadEntries.{meets_again, meets_none_seen, meets_past_others, meets_seen, meets_past_new, meets_at, seen_one_more}
use Rattle.olk_build.proofs.dependencies.has_repeated_text.Goals.{in-Some+in_ok-is_new+else-not-is_new, in_default}
use Rattle.olk_build.proofs.dependencies.has_repeated_text.Goals as goal

pub loop-item-init : goal.loop-item-init
loop-item-init c = meets_none_seen c.new-seen.result c.args.items.now c.new-seen.ensures.empty

pub loop-item-preserved : goal.loop-item-preserved
loop-item-preserved c =
    let before = sym (meets_at c.loop-item.seen c.args.items.now c.loop-item.item-index c.item-item.result c.loop-item-test.true c.item-item.is) ∙ c.loop-item.invariant in
    elim c.match-as_str.branch [
      | in-Some+in_ok-is_new+else-not-is_new w ↦ ap (λ s. meets_again s (drop (c.loop-item.item-index + 1) c.args.items.now)) w.seen-is
          ∙ sym (meets_past_new c.loop-item.seen w.in-Some.text.now c.item-item.result _ (sym w.in-Some.ensures) w.insert.new.self
          (sym w.if-not-is_new.false ∙ w.in_ok-is_new.ensures.added) (seen_one_more c.loop-item.seen w.insert.new.self w.in-Some.text w.in_ok-is_new.ensures.updates))
          ∙ before
      | in_default w ↦ ap (λ s. meets_again s (drop (c.loop-item.item-index + 1) c.args.items.now)) w.seen-is
          ∙ sym (meets_past_others c.loop-item.seen c.item-item.result _ (sym w.in_default.ensures)) ∙ before
    ]

pub returns-then-not-is_new : goal.returns-then-not-is_new
returns-then-not-is_new c =
    sym (meets_seen c.loop-item.seen c.in-Some.text.now c.item-item.result _ (sym c.in-Some.ensures) (sym c.if-not-is_new.true ∙ c.in_ok-is_new.ensures.added))
    ∙ sym (meets_at c.loop-item.seen c.args.items.now c.loop-item.item-index c.item-item.result c.loop-item-test.true c.item-item.is)
    ∙ c.loop-item.invariant
