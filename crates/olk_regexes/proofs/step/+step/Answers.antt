use Rattle.olk_regexes.specs.Marks.{size, Steps}
use Rattle.std.proofs.Common.{◌≡◌, ◌+◌, suc, length, false, sym, subst, arith, rules}
use Rattle.olk_regexes.specs.Live.{IsDead}
use Rattle.olk_regexes.proofs.Dead.{nothing_moves, first_dead, second_dead, then_dead, left_dead, right_dead, or_dead, each_dead, star_dead}
use Rattle.olk_regexes.proofs.Parts.{empty_all, one_all, then_all, or_all, star_all}
use Rattle.olk_regexes.proofs.step.+step.Goals as goal

pub returns-in-Empty-clause-steps : goal.returns-in-Empty-clause-steps
returns-in-Empty-clause-steps t c = rw c.in-Empty.is (empty_all c.args.enter c.args.c c.args.marks.now)

pub returns-in-One-clause-steps : goal.returns-in-One-clause-steps
returns-in-One-clause-steps t c = rw c.in-One.is (one_all c.in-One.class c.args.enter c.begins.result c.args.c c.args.marks.now c.begins.ensures)

pub returns-in-Then-clause-steps : goal.returns-in-Then-clause-steps
unfolding Steps
returns-in-Then-clause-steps t c =
    let b = rw c.in-Then.is at c.requires.built in
    let z = rw c.in-Then.is at c.requires.sized in
    let p = rw c.deref.ensures at c.step-one.ensures.steps in
    let q = rw c.deref-in-Then.ensures at c.step-two.ensures.steps in
    rw c.in-Then.is (then_all c.in-Then.first.value c.in-Then.second.value c.in-Then.n c.in-Then.first_empty c.in-Then.second_empty
    c.args.enter c.or_both-enters.result c.step-one.result.ended c.step-two.result.ended c.or_both.result c.args.c c.args.marks.now
    c.step-one.new.marks c.step-two.new.marks b.1.1.0 b.1.1.1.0 b.1.1.1.1 z c.step-one.auto.marks p c.or_both-enters.ensures q c.or_both.ensures)

pub returns-in-Or-clause-steps : goal.returns-in-Or-clause-steps
unfolding Steps
returns-in-Or-clause-steps t c =
    let b = rw c.in-Or.is at c.requires.built in
    let z = rw c.in-Or.is at c.requires.sized in
    let p = rw c.deref-in-Or.ensures at c.step-left.ensures.steps in
    let q = rw c.deref-in-Or-2.ensures at c.step-right.ensures.steps in
    rw c.in-Or.is (or_all c.in-Or.first.value c.in-Or.second.value c.in-Or.n
    c.args.enter c.step-left.result.ended c.step-right.result.ended c.or.result c.args.c c.args.marks.now
    c.step-left.new.marks c.step-right.new.marks b.1.1 z c.step-left.auto.marks p q c.or.ensures)

pub returns-in-Star-clause-steps : goal.returns-in-Star-clause-steps
unfolding Steps
returns-in-Star-clause-steps t c =
    let z = rw c.in-Star.is at c.requires.sized in
    let p = rw c.deref-in-Star.ensures at c.step-one-in-Star.ensures.steps in
    rw c.in-Star.is (star_all c.in-Star.each.value c.args.enter c.or-enters.result c.step-one-in-Star.result.ended c.args.c c.args.marks.now
    c.step-one-in-Star.new.marks z c.or-enters.ensures p)

pub step-one-requires : goal.step-one-requires
step-one-requires t c =
    let z = rw c.in-Then.is at c.requires.sized in
    (search rules, (search rules, (search rules, rw c.saturating_sub.ensures (first_dead c.args.live c.in-Then.n c.args.marks.now _ z c.requires.dead))))

pub step-two-requires : goal.step-two-requires
step-two-requires t c =
    let b = rw c.in-Then.is at c.requires.built in
    let z = rw c.in-Then.is at c.requires.sized in
    let y : length c.args.marks.now ≡ suc (c.in-Then.n + size c.in-Then.second.value) = omega (arith, z, b.1.1.0) in
    (search rules, (search rules, (search rules, rw c.saturating_sub-in-Then.ensures (second_dead c.args.live c.in-Then.n c.args.marks.now c.step-one.new.marks _ y c.step-one.auto.marks c.requires.dead))))

pub step-left-requires : goal.step-left-requires
step-left-requires t c = (search rules, (search rules, (search rules, left_dead c.args.live c.in-Or.n c.args.marks.now c.requires.dead)))

pub step-right-requires : goal.step-right-requires
step-right-requires t c =
    let b = rw c.in-Or.is at c.requires.built in
    let z = rw c.in-Or.is at c.requires.sized in
    let y : length c.args.marks.now ≡ c.in-Or.n + size c.in-Or.second.value = omega (arith, z, b.1.1) in
    (search rules, (search rules, (search rules, rw c.saturating_sub-in-Or.ensures (right_dead c.args.live c.in-Or.n _ c.args.marks.now c.step-left.new.marks y c.step-left.auto.marks c.requires.dead))))

pub step-one-requires-in-Star : goal.step-one-requires-in-Star
step-one-requires-in-Star t c =
    let z = rw c.in-Star.is at c.requires.sized in
    (search rules, (search rules, (search rules, rw c.saturating_sub-in-Star.ensures (each_dead c.args.live _ c.args.marks.now z c.requires.dead))))

pub returns-in-Then-clause-dead : goal.returns-in-Then-clause-dead
returns-in-Then-clause-dead t c =
    let b = rw c.in-Then.is at c.requires.built in
    let z = rw c.in-Then.is at c.requires.sized in
    let y : length c.args.marks.now ≡ suc (c.in-Then.n + size c.in-Then.second.value) = omega (arith, z, b.1.1.0) in
    rw c.live_then.ensures (then_dead c.in-Then.n c.step-one.result.ended c.step-one.result.live c.step-two.result.live _ c.args.marks.now
    c.step-one.new.marks c.step-two.new.marks y c.step-one.auto.marks c.step-one.ensures.dead c.step-two.ensures.dead)

pub returns-in-Or-clause-dead : goal.returns-in-Or-clause-dead
returns-in-Or-clause-dead t c =
    let b = rw c.in-Or.is at c.requires.built in
    let z = rw c.in-Or.is at c.requires.sized in
    let y : length c.args.marks.now ≡ c.in-Or.n + size c.in-Or.second.value = omega (arith, z, b.1.1) in
    rw c.live_or.ensures (or_dead c.in-Or.n c.step-left.result.live c.step-right.result.live _ c.args.marks.now
    c.step-left.new.marks c.step-right.new.marks y c.step-left.auto.marks c.step-left.ensures.dead c.step-right.ensures.dead)

pub returns-in-Star-clause-dead : goal.returns-in-Star-clause-dead
returns-in-Star-clause-dead t c =
    let z = rw c.in-Star.is at c.requires.sized in
    rw c.live_then-in-Star.ensures (star_dead c.step-one-in-Star.result.ended c.step-one-in-Star.result.live _ c.args.marks.now
    c.step-one-in-Star.new.marks z c.step-one-in-Star.ensures.dead)

pub returns-then-live-eq0-clause-steps : goal.returns-then-live-eq0-clause-steps
returns-then-live-eq0-clause-steps t c =
    let d : IsDead 0 c.args.marks.now = subst (λ l. IsDead l c.args.marks.now) c.if-live-eq0.true c.requires.dead in
    subst (λ b. Steps c.args.regex.now b c.args.c c.args.marks.now c.args.marks.now false) (sym c.if-not-enter.true)
    (nothing_moves c.args.regex.now c.args.c c.args.marks.now d)
