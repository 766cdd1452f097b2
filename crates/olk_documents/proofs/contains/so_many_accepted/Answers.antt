use Rattle.std.proofs.Common.{refl, arith}
use Rattle.olk_tree.proofs.Lists.{next_at, past_end}
use Rattle.olk_documents.proofs.Counted.{count_accepted, count_refused, count_decided, count_end}
use Rattle.olk_documents.proofs.contains.so_many_accepted.Goals as goal

pub returns-in-Some : goal.returns-in-Some
returns-in-Some g c = count_decided c.loop-i.invariant.left c.in-Some.ensures

pub loop-i-preserved : goal.loop-i-preserved
loop-i-preserved g c =
    let next = next_at {xs = c.args.items.now.items} {i = c.loop-i.i} refl c.index.ensures (omega arith) in
    let few = c.loop-i.invariant.few in
    elim c.if-check.branch [
      | goal.then-check w ↦ rw w.count-is record { few = omega (arith, few); left = count_accepted c.loop-i.invariant.left next w.if-check.ensures }
      | goal.else-check w ↦ rw w.count-is record { few = omega (arith, few); left = count_refused c.loop-i.invariant.left next w.if-check.ensures }
    ]

pub returns : goal.returns
returns g c = count_end c.loop-i.invariant.left (past_end {xs = c.args.items.now.items} {i = c.loop-i.i} refl (omega arith)) c.contain.ensures
