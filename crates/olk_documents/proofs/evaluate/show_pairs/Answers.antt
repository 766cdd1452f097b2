use Rattle.std.proofs.Common.{map, refl, arith}
use Rattle.serde_json.specs.View.{view}
use Rattle.olk_spec.specs.Schemas.{numbered}
use Rattle.olk_reports.specs.Evaluations.{shown_of}
use Rattle.olk_tree.proofs.Lists.{next_at, past_end}
use Rattle.olk_evaluate.proofs.Children.{shows_none, shows_both}
use Rattle.olk_evaluate.proofs.Shows.{kept_then, shows_err, leaves_all, leaves_rest, leaves_none}
use Rattle.olk_documents.proofs.Pairs.{pairs_next, first_ends, second_ends}
use Rattle.olk_documents.proofs.Positions.{numbered_next, numbered_end}
use Rattle.olk_documents.proofs.evaluate.show_pairs.Goals as goal

pub loop-i-init : goal.loop-i-init
loop-i-init g c = leaves_all refl

pub returns-then-i-len : goal.returns-then-i-len
returns-then-i-len g c = record {
  shown = λ u so. leaves_none c.loop-i.invariant (second_ends c.args.schemas.now.items (numbered (map view c.args.items.now.items)) c.loop-i.i
      (numbered_end c.loop-i.i c.args.items.now.items (past_end {xs = c.args.items.now.items} {i = c.loop-i.i} refl (omega arith)))) so (shows_none (shown_of c.loop-i.outcome));
  kept = c.loop-i.invariant.kept;
}

pub loop-i-preserved : goal.loop-i-preserved
loop-i-preserved g c = leaves_rest c.loop-i.invariant
    (pairs_next c.args.schemas.now.items (numbered (map view c.args.items.now.items)) c.loop-i.i (next_at {xs = c.args.schemas.now.items} {i = c.loop-i.i} refl c.index.ensures (omega arith))
    (numbered_next c.loop-i.i c.args.items.now.items (next_at {xs = c.args.items.now.items} {i = c.loop-i.i} refl c.index-in-loop-i.ensures (omega arith))))
    (λ u so _. shows_both (c.in_ok-show_item.ensures.shown u so)) c.show_item.ensures.kept

pub returns-in_err-show_item : goal.returns-in_err-show_item
returns-in_err-show_item g c = shows_err c.from_residual.ensures.0 (kept_then c.loop-i.invariant.kept c.show_item.ensures.kept)

pub returns : goal.returns
returns g c = record {
  shown = λ u so. leaves_none c.loop-i.invariant (first_ends c.args.schemas.now.items (numbered (map view c.args.items.now.items)) c.loop-i.i
      (past_end {xs = c.args.schemas.now.items} {i = c.loop-i.i} refl (omega arith))) so (shows_none (shown_of c.loop-i.outcome));
  kept = c.loop-i.invariant.kept;
}
