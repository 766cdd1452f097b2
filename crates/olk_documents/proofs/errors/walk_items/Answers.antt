use Rattle.std.proofs.Common.{refl, arith}
use Rattle.olk_tree.proofs.Lists.{next_at, past_end}
use Rattle.olk_errors.proofs.Loops.{walking_start, walking_turn, walking_end}
use Rattle.olk_errors.proofs.Sinks.{walks_left}
use Rattle.olk_documents.proofs.Positions.{numbered_next, numbered_end}
use Rattle.olk_documents.proofs.errors.walk_items.Goals as goal

pub loop-i-init : goal.loop-i-init
loop-i-init g c = walking_start

pub loop-i-preserved : goal.loop-i-preserved
loop-i-preserved g c = walking_turn c.loop-i.invariant (numbered_next c.loop-i.i c.args.items.now.items (next_at {xs = c.args.items.now.items} {i = c.loop-i.i} refl c.index.ensures (omega arith))) c.in_ok-walk_item.ensures

pub returns-in_err-walk_item : goal.returns-in_err-walk_item
returns-in_err-walk_item g c = walks_left c.from_residual.ensures.0
    (walking_turn c.loop-i.invariant (numbered_next c.loop-i.i c.args.items.now.items (next_at {xs = c.args.items.now.items} {i = c.loop-i.i} refl c.index.ensures (omega arith))) c.in_err-walk_item.ensures)

pub returns : goal.returns
returns g c = walking_end c.loop-i.invariant (numbered_end c.loop-i.i c.args.items.now.items (past_end {xs = c.args.items.now.items} {i = c.loop-i.i} refl (omega arith)))
