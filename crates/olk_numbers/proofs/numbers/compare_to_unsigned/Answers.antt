use Rattle.std.proofs.Common.{Some, sym, ap, ◌∙◌}
use Rattle.std.proofs.lemmas.Float.{T_from_false}
use Rattle.std.specs.Float.{NotNan}
use Rattle.std.specs.Float.Ieee.{of_bits}
use Rattle.olk_numbers.proofs.Comparisons.{less_of_lt, greater_of_lt, negative_below, past_whole, whole_part_order, fraction_above}
use Rattle.olk_numbers.proofs.numbers.compare_to_unsigned.Goals as goal
use Rattle.olk_numbers.proofs.numbers.compare_to_unsigned.Goals.{else-whole-n-via-then-whole-n+else-not-has_no_fraction, else-whole-n-via-else-whole-n}

pub returns-then-x : goal.returns-then-x
unfolding of_bits
returns-then-x c = less_of_lt c.args.x _ (negative_below c.args.x c.args.n c.if-x.true)

pub returns-then-not-has_no_fraction : goal.returns-then-not-has_no_fraction
unfolding of_bits
returns-then-not-has_no_fraction c =
    let whole = sym c.if-whole-n.true ∙ c.saturating_f64_to_u64-whole.ensures in
    greater_of_lt c.args.x _ (fraction_above c.args.x c.args.n c.if-x.false c.if-x-2.true whole (sym c.has_no_fraction.ensures ∙ c.if-not-has_no_fraction.true))

pub returns-else-whole-n : goal.returns-else-whole-n
unfolding of_bits
returns-else-whole-n c =
    let order = whole_part_order c.args.x c.saturating_f64_to_u64-whole.result c.args.n c.if-x.false c.if-x-2.true c.saturating_f64_to_u64-whole.ensures in
    ap Some c.cmp.ensures ∙ order (elim c.else-whole-n.branch [
      | else-whole-n-via-then-whole-n+else-not-has_no_fraction w ↦ λ _. sym w.has_no_fraction.ensures ∙ w.if-not-has_no_fraction.false
      | else-whole-n-via-else-whole-n w ↦ λ h. absurd (w.if-whole-n.false h)
    ])

pub returns-else-is_nan : goal.returns-else-is_nan
unfolding of_bits
returns-else-is_nan c =
    let number : NotNan c.args.x = T_from_false _ (sym c.is_nan.ensures.value ∙ c.if-is_nan.false) in
    greater_of_lt c.args.x _ (past_whole c.args.x c.args.n c.ranges.n.fits number c.if-x-2.false)
