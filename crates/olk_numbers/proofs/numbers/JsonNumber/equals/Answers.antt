use Rattle.std.proofs.Common.{◌≡◌, ap, ◌∙◌, rules}
use Rattle.std.specs.Ordering.{is_some_and, is_eq}
use Rattle.olk_numbers.specs.Numbers.{exact, num_of}
use Rattle.olk_numbers.proofs.Comparisons.{is_eq-compared}
use Rattle.olk_numbers.proofs.numbers.JsonNumber.equals.Goals as goal

pub returns : goal.returns
returns c =
    let answer : c.is_some_and.result ≡ is_some_and is_eq c.compare.result = search rules in
    answer ∙ ap (is_some_and is_eq) c.compare.ensures ∙ is_eq-compared (exact (num_of c.args.self)) (exact (num_of c.args.other))
