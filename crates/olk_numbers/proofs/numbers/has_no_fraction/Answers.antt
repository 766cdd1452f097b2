use Rattle.std.proofs.Common.{T, ap, ◌∙◌, rules}
use Rattle.std.specs.Float.{binary64}
use Rattle.std.specs.Float.Ieee.{fits, of_bits, eq}
use Rattle.olk_numbers.proofs.Remainders.{integral_below, integral_past}
use Rattle.olk_numbers.proofs.numbers.has_no_fraction.Goals as goal

pub returns-then-size : goal.returns-then-size
unfolding of_bits
returns-then-size c =
    let size = c.abs-size.result in
    let whole = c.saturating_f64_to_u64.result in
    ap (λ y. eq y size) c.nearest_u64_to_f64.ensures ∙ integral_below c.args.x size whole c.abs-size.ensures.value c.if-size.true c.saturating_f64_to_u64.ensures

pub returns-else-size : goal.returns-else-size
unfolding of_bits
returns-else-size c =
    let fits : T (fits binary64 c.args.x) = search rules in
    c.is_finite.ensures.value ∙ integral_past c.args.x c.abs-size.result c.abs-size.ensures.value fits c.if-size.false
