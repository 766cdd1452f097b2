use Rattle.std.proofs.Common.{◌≡◌, true, ◌%◌, ◌^◌, nat_eq, ap, sym, ◌∙◌}
use Rattle.std.proofs.lemmas.Nat.{mul-mod_first}
use Rattle.olk_numbers.specs.Numbers.{is_integral, whole_part}
use Rattle.olk_numbers.specs.Multiples.{whole_is_multiple}
use Rattle.olk_numbers.proofs.Divisions.{size_of, whole_is, fraction_is}
use Rattle.olk_numbers.proofs.divisors.Divisor.divides_double.Goals as goal

pub remainder-requires-clause-finite : goal.remainder-requires-clause-finite
remainder-requires-clause-finite c =
    (size_of c.args.x c.abs.result c.abs.ensures.value (sym c.has_no_fraction.ensures ∙ c.if-has_no_fraction.true)).is_finite

pub remainder-requires-clause-sign : goal.remainder-requires-clause-sign
remainder-requires-clause-sign c =
    (size_of c.args.x c.abs.result c.abs.ensures.value (sym c.has_no_fraction.ensures ∙ c.if-has_no_fraction.true)).is_positive

pub returns-then-has_no_fraction : goal.returns-then-has_no_fraction
returns-then-has_no_fraction c =
    let decimal = c.args.self.decimal in
    let whole : is_integral c.args.x ≡ true = sym c.has_no_fraction.ensures ∙ c.if-has_no_fraction.true in
    let size = size_of c.args.x c.abs.result c.abs.ensures.value whole in
    c.divides_remainder.ensures
    ∙ ap (λ n. whole_is_multiple n decimal) (c.remainder.ensures ∙ ap (λ n. n % decimal.digits) size.value)
    ∙ ap (λ n. nat_eq n 0) (mul-mod_first (whole_part c.args.x) (10 ^ decimal.places) decimal.digits)
    ∙ sym (whole_is c.args.x decimal whole)

pub returns-else-has_no_fraction : goal.returns-else-has_no_fraction
returns-else-has_no_fraction c =
    c.divides_fraction.ensures ∙ sym (fraction_is c.args.x c.args.self.decimal (sym c.has_no_fraction.ensures ∙ c.if-has_no_fraction.false))
