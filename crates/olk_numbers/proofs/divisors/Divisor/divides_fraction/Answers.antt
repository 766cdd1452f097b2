use Rattle.std.proofs.Common.{false, ap, sym, ◌∙◌}
use Rattle.std.specs.Option.{option_map_or}
use Rattle.olk_numbers.specs.Decimals.{decimal_of}
use Rattle.olk_numbers.specs.Multiples.{decimal_is_multiple}
use Rattle.olk_numbers.proofs.divisors.Divisor.divides_fraction.Goals as goal

pub returns-in-Some : goal.returns-in-Some
returns-in-Some c =
    let found = sym c.in-Some.is ∙ c.of.ensures.first ∙ ap decimal_of c.abs.ensures.value in
    c.divides_decimal.ensures ∙ ap (λ o. option_map_or (λ d. decimal_is_multiple d c.args.self.decimal) o false) found

pub returns-in-None : goal.returns-in-None
returns-in-None c =
    let found = sym c.in-None.is ∙ c.of.ensures.first ∙ ap decimal_of c.abs.ensures.value in
    ap (λ o. option_map_or (λ d. decimal_is_multiple d c.args.self.decimal) o false) found
