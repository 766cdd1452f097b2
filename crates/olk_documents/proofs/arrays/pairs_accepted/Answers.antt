use Rattle.std.proofs.Common.{arith, refl}
use Rattle.olk_tree.proofs.Lists.{next_at, past_end}
use Rattle.olk_check.proofs.Walks.{all_go_on, all_stop, all_end}
use Rattle.olk_documents.proofs.Pairs.{pairs_next, first_ends, second_ends}
use Rattle.olk_documents.proofs.arrays.pairs_accepted.Goals as goal

pub returns-then-i-len : goal.returns-then-i-len
returns-then-i-len g c = all_end c.loop-i.invariant (second_ends c.args.schemas.now.items c.args.items.now.items c.loop-i.i (past_end {xs = c.args.items.now.items} {i = c.loop-i.i} refl (omega arith)))

pub returns-then-not-check : goal.returns-then-not-check
returns-then-not-check g c = all_stop c.loop-i.invariant
    (pairs_next c.args.schemas.now.items c.args.items.now.items c.loop-i.i (next_at {xs = c.args.schemas.now.items} {i = c.loop-i.i} refl c.index.ensures (omega arith)) (next_at {xs = c.args.items.now.items} {i = c.loop-i.i} refl c.index-in-loop-i.ensures (omega arith)))
    c.if-not-check.ensures

pub loop-i-preserved : goal.loop-i-preserved
loop-i-preserved g c = all_go_on c.loop-i.invariant
    (pairs_next c.args.schemas.now.items c.args.items.now.items c.loop-i.i (next_at {xs = c.args.schemas.now.items} {i = c.loop-i.i} refl c.index.ensures (omega arith)) (next_at {xs = c.args.items.now.items} {i = c.loop-i.i} refl c.index-in-loop-i.ensures (omega arith)))
    c.if-not-check.ensures

pub returns : goal.returns
returns g c = all_end c.loop-i.invariant (first_ends c.args.schemas.now.items c.args.items.now.items c.loop-i.i (past_end {xs = c.args.schemas.now.items} {i = c.loop-i.i} refl (omega arith)))
