use Rattle.std.proofs.Common.{IfSome, sym, subst, ◌∙◌, arith}
use Rattle.olk_numbers.specs.Decimals.{ReadsAs}
use Rattle.olk_numbers.proofs.Readings.{first, next, here, last, of-reads}
use Rattle.olk_numbers.proofs.decimals.Decimal.of.Goals as goal

pub loop-places-init : goal.loop-places-init
loop-places-init c = first c.args.x

pub returns-in-Some-clause-first : goal.returns-in-Some-clause-first
returns-in-Some-clause-first c =
    sym (c.loop-places.invariant ∙ here c.args.x c.loop-places.places c.in-Some.decimal c.loop-places-test.true (sym c.at.ensures ∙ c.in-Some.is))

pub returns-in-Some-clause-reads : goal.returns-in-Some-clause-reads
returns-in-Some-clause-reads c =
    subst (λ o. IfSome o (ReadsAs c.args.x)) (c.loop-places.invariant ∙ here c.args.x c.loop-places.places c.in-Some.decimal c.loop-places-test.true (sym c.at.ensures ∙ c.in-Some.is)) (of-reads c.args.x)

pub loop-places-preserved : goal.loop-places-preserved
loop-places-preserved c = c.loop-places.invariant ∙ next c.args.x c.loop-places.places c.loop-places-test.true (sym c.at.ensures ∙ c.in_default.is)

pub returns-clause-first : goal.returns-clause-first
returns-clause-first c = sym (c.loop-places.invariant ∙ last c.args.x c.loop-places.places (omega arith))
