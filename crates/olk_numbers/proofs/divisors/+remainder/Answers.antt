use Rattle.std.proofs.Common.{◌<◌, ◌*◌, ◌%◌, ap, sym, ◌∙◌, arith, rules, refl, false, pos}
use Rattle.std.proofs.lemmas.Nat.{mul-mod_second}
use Rattle.std.specs.Float.{fin, binary64}
use Rattle.std.specs.Float.Ieee.{of_bits, div}
use Rattle.olk_numbers.specs.Numbers.{whole_part}
use Rattle.olk_numbers.proofs.Halves.{halved, cut}
use Rattle.olk_numbers.proofs.divisors.+remainder.Goals as goal

pub remainder-requires : goal.remainder-requires
unfolding of_bits
remainder-requires t c =
    let half = halved c.args.x _ (search rules) c.requires.finite c.requires.sign c.if-x.false refl in
    let smaller : whole_part (div binary64 c.args.x (fin false 1 (pos 1))) < t = omega (arith, half.twice, half.above_zero) in
    (smaller, (c.requires.nonzero, (half.is_whole.is_finite, half.is_whole.is_positive)))

pub returns-then-x : goal.returns-then-x
unfolding of_bits
returns-then-x t c =
    ap (λ n. n % c.args.divisor) (cut c.args.x c.saturating_f64_to_u64.result c.requires.sign c.if-x.true c.saturating_f64_to_u64.ensures)

pub returns-else-x : goal.returns-else-x
unfolding of_bits
returns-else-x t c =
    let half = halved c.args.x _ (search rules) c.requires.finite c.requires.sign c.if-x.false refl in
    c.twice.ensures
    ∙ ap (λ n. (2 * n) % c.args.divisor) c.remainder.ensures
    ∙ mul-mod_second 2 (whole_part (div binary64 c.args.x (fin false 1 (pos 1)))) c.args.divisor
    ∙ ap (λ n. n % c.args.divisor) (sym half.twice)
