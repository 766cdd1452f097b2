use Rattle.std.proofs.Common.{◌≡◌, pos, unsigned_abs, sym, ap, ◌∙◌, arith, to_z-of_z}
use Rattle.olk_numbers.specs.Numbers.{num_of, exact}
use Rattle.olk_numbers.specs.Multiples.{whole_is_multiple, double_is_multiple}
use Rattle.olk_numbers.proofs.Divisions.{known, whole_number}
use Rattle.olk_numbers.proofs.numbers.JsonNumber.is_multiple_of.Goals as goal

pub returns-in-Unsigned : goal.returns-in-Unsigned
returns-in-Unsigned c =
    let stands = known (num_of c.args.self) (num_of c.args.divisor.number) c.args.divisor.decimal c.args.divisor.stands in
    c.divides_whole.ensures ∙ whole_number (pos c.in-Unsigned.n) c.args.divisor.decimal
    ∙ ap (λ j. double_is_multiple (exact (num_of j)) c.args.divisor.decimal) (sym c.in-Unsigned.is) ∙ sym stands

pub returns-in-Negative : goal.returns-in-Negative
returns-in-Negative c =
    let stands = known (num_of c.args.self) (num_of c.args.divisor.number) c.args.divisor.decimal c.args.divisor.stands in
    let size : c.unsigned_abs.result ≡ unsigned_abs c.in-Negative.n = grind (arith, to_z-of_z) in
    c.divides_whole-in-Negative.ensures ∙ ap (λ n. whole_is_multiple n c.args.divisor.decimal) size ∙ whole_number c.in-Negative.n c.args.divisor.decimal
    ∙ ap (λ j. double_is_multiple (exact (num_of j)) c.args.divisor.decimal) (sym c.in-Negative.is) ∙ sym stands

pub returns-in-Float : goal.returns-in-Float
returns-in-Float c =
    let stands = known (num_of c.args.self) (num_of c.args.divisor.number) c.args.divisor.decimal c.args.divisor.stands in
    c.divides_double.ensures ∙ ap (λ j. double_is_multiple (exact (num_of j)) c.args.divisor.decimal) (sym c.in-Float.is) ∙ sym stands
