use Rattle.std.proofs.Common.{refl, arith}
use Rattle.olk_tree.proofs.Lists.{next_at, past_end}
use Rattle.olk_check.proofs.Choices.{unmatched_goes_on, matched_goes_on, matched_stops, spoken_ends, rest_ends}
use Rattle.olk_check.proofs.additional_properties.patterns_accept.Goals as goal

pub loop-index-preserved-then-not-matches_unless_known : goal.loop-index-preserved-then-not-matches_unless_known
loop-index-preserved-then-not-matches_unless_known g c =
    unmatched_goes_on c.loop-index.invariant (next_at refl c.entry-item.is c.loop-index-test.true) c.known-known.ensures c.if-not-matches_unless_known.ensures

pub returns-then-not-check : goal.returns-then-not-check
returns-then-not-check g c =
    matched_stops c.loop-index.invariant (next_at refl c.entry-item.is c.loop-index-test.true) c.known-known.ensures c.if-not-matches_unless_known.ensures
    c.if-not-check.ensures

pub loop-index-preserved : goal.loop-index-preserved
loop-index-preserved g c =
    matched_goes_on c.loop-index.invariant (next_at refl c.entry-item.is c.loop-index-test.true) c.known-known.ensures c.if-not-matches_unless_known.ensures
    c.if-not-check.ensures

pub returns-then-spoken : goal.returns-then-spoken
returns-then-spoken g c = spoken_ends c.loop-index.invariant (past_end {xs = c.args.sides.patterns.now} {i = c.loop-index.index} refl (omega arith)) c.if-spoken.true

pub returns-else-spoken : goal.returns-else-spoken
returns-else-spoken g c = rest_ends c.loop-index.invariant (past_end {xs = c.args.sides.patterns.now} {i = c.loop-index.index} refl (omega arith)) c.if-spoken.false c.rest_accepts.ensures
