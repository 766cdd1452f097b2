use Rattle.std.proofs.Common.{◌≡◌, ◌-◌, true, sym, subst, arith, rules}
use Rattle.olk_regexes.specs.Language.{blank, seq, alt}
use Rattle.olk_regexes.specs.Limits.{fits}
use Rattle.olk_regexes.specs.Marks.{expr}
use Rattle.olk_regexes.specs.Trees.{expr_of}
use Rattle.olk_regexes.proofs.Large.{fits_between, fits_exactly, fits_times, fits_options}
use Rattle.olk_regexes.proofs.build.+build.Goals as goal

pub between-up_to_more-requires : goal.between-up_to_more-requires
between-up_to_more-requires t c =
    (search rules, fits_between c.args.times (c.args.more - 1) c.args.more (expr_of c.args.part.now) (omega arith) c.requires)

pub exactly-build-requires : goal.exactly-build-requires
exactly-build-requires t c =
    (search rules, fits_exactly (c.args.times - 1) c.args.times (expr_of c.args.part.now) (omega arith) c.requires)

pub times_then-before-requires : goal.times_then-before-requires
times_then-before-requires t c = (
  search rules,
  subst (λ p. fits (seq (expr_of c.args.part.now) p) ≡ true) (sym c.loop.invariant)
      (fits_times c.loop.counter c.args.times (expr_of c.args.part.now) (expr c.args.last.regex) c.loop-test.true c.requires),
)

pub up_to_more-maybe_before-requires : goal.up_to_more-maybe_before-requires
up_to_more-maybe_before-requires t c = (
  search rules,
  subst (λ p. fits (alt (seq (expr_of c.args.part.now) p) blank) ≡ true) (sym c.loop.invariant)
      (fits_options c.loop.counter c.args.times (expr_of c.args.part.now) c.loop-test.true c.requires),
)
