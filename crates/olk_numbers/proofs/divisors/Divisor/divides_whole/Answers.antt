use Rattle.std.proofs.Common.{ap, ◌∙◌, ◌^◌, nat_eq}
use Rattle.std.proofs.lemmas.Nat.{mul-mod_first}
use Rattle.olk_numbers.proofs.divisors.Divisor.divides_whole.Goals as goal

pub returns : goal.returns
returns c =
    c.divides_remainder.ensures ∙ ap (λ n. nat_eq n 0) (mul-mod_first c.args.number (10 ^ c.args.self.decimal.places) c.args.self.decimal.digits)
