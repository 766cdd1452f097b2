use Rattle.std.proofs.Common.{refl, arith}
use Rattle.olk_reports.specs.Evaluations.{shown_of}
use Rattle.olk_tree.proofs.Lists.{next_at, past_end}
use Rattle.olk_evaluate.proofs.Children.{shows_none, shows_both}
use Rattle.olk_evaluate.proofs.Shows.{kept_then, shows_err, leaves_all, leaves_rest, leaves_none}
use Rattle.olk_documents.proofs.Positions.{numbered_next, numbered_end}
use Rattle.olk_documents.proofs.evaluate.show_items.Goals as goal

pub loop-i-init : goal.loop-i-init
loop-i-init g c = leaves_all refl

pub loop-i-preserved : goal.loop-i-preserved
loop-i-preserved g c = leaves_rest c.loop-i.invariant (numbered_next c.loop-i.i c.args.items.now.items (next_at {xs = c.args.items.now.items} {i = c.loop-i.i} refl c.index.ensures (omega arith)))
    (λ u so _. shows_both (c.in_ok-show_item.ensures.shown u so)) c.show_item.ensures.kept

pub returns-in_err-show_item : goal.returns-in_err-show_item
returns-in_err-show_item g c = shows_err c.from_residual.ensures.0 (kept_then c.loop-i.invariant.kept c.show_item.ensures.kept)

pub returns : goal.returns
returns g c = record {
  shown = λ u so. leaves_none c.loop-i.invariant (numbered_end c.loop-i.i c.args.items.now.items (past_end {xs = c.args.items.now.items} {i = c.loop-i.i} refl (omega arith))) so (shows_none (shown_of c.loop-i.outcome));
  kept = c.loop-i.invariant.kept;
}
