use Rattle.std.proofs.Common.{◌≡◌, pos, ap, ◌∙◌, arith, rules, to_z-of_z, SFits, w64}
use Rattle.std.specs.Option.{option_map}
use Rattle.std.specs.Ordering.{int_cmp, ordering_reverse}
use Rattle.olk_numbers.proofs.Comparisons.{unsigned_order, signed_order, reverse-compared}
use Rattle.olk_numbers.proofs.numbers.JsonNumber.compare.Goals as goal

pub returns-in-Unsigned-Unsigned : goal.returns-in-Unsigned-Unsigned
returns-in-Unsigned-Unsigned c = rw (c.in-Unsigned-Unsigned.is-0, c.in-Unsigned-Unsigned.is-1, c.cmp.ensures) (unsigned_order _ _)

pub returns-in-Unsigned-Negative : goal.returns-in-Unsigned-Negative
returns-in-Unsigned-Negative c =
    let order : c.cmp-in-Unsigned-Negative.result ≡ int_cmp (pos c.in-Unsigned-Negative.m) c.in-Unsigned-Negative.n = grind (arith, to_z-of_z) in
    rw (c.in-Unsigned-Negative.is-0, c.in-Unsigned-Negative.is-1, order) (signed_order (pos c.in-Unsigned-Negative.m) c.in-Unsigned-Negative.n)

pub returns-in-Unsigned-Float : goal.returns-in-Unsigned-Float
returns-in-Unsigned-Float c =
    let order = c.reversed.ensures ∙ ap (option_map ordering_reverse) c.compare_to_unsigned.ensures in
    rw (c.in-Unsigned-Float.is-0, c.in-Unsigned-Float.is-1) (order ∙ reverse-compared _ _)

pub returns-in-Negative-Unsigned : goal.returns-in-Negative-Unsigned
returns-in-Negative-Unsigned c =
    let order : c.cmp-in-Negative-Unsigned.result ≡ int_cmp c.in-Negative-Unsigned.m (pos c.in-Negative-Unsigned.n) = grind (arith, to_z-of_z) in
    rw (c.in-Negative-Unsigned.is-0, c.in-Negative-Unsigned.is-1, order) (signed_order c.in-Negative-Unsigned.m (pos c.in-Negative-Unsigned.n))

pub returns-in-Negative-Negative : goal.returns-in-Negative-Negative
returns-in-Negative-Negative c =
    let order : c.cmp-in-Negative-Negative.result ≡ int_cmp c.in-Negative-Negative.m c.in-Negative-Negative.n = grind (arith, to_z-of_z) in
    rw (c.in-Negative-Negative.is-0, c.in-Negative-Negative.is-1, order) (signed_order c.in-Negative-Negative.m c.in-Negative-Negative.n)

pub returns-in-Negative-Float : goal.returns-in-Negative-Float
returns-in-Negative-Float c =
    let m = c.in-Negative-Float.m in
    let fits : SFits w64 m = search rules in
    let compared = rw (to_z-of_z fits) at c.compare_to_signed.ensures in
    let order = c.reversed-in-Negative-Float.ensures ∙ ap (option_map ordering_reverse) compared in
    rw (c.in-Negative-Float.is-0, c.in-Negative-Float.is-1) (order ∙ reverse-compared _ _)
