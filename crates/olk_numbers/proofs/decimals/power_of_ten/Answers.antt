use Rattle.std.proofs.Common.{◌≡◌, ◌+◌, ◌-◌, ◌/◌, ◌^◌, pos, ap, ◌∙◌, arith}
use Rattle.std.specs.Float.{binary64}
use Rattle.std.specs.Float.Ieee.{of_int, mul}
use Rattle.olk_numbers.proofs.Powers.{mul-tens}
use Rattle.olk_numbers.proofs.decimals.power_of_ten.Goals as goal

pub returns : goal.returns
returns c =
    let fewer = c.args.places / 2 in
    let others = c.args.places - fewer in
    let x : c.nearest_u64_to_f64.result ≡ of_int binary64 (pos (10 ^ fewer)) = c.nearest_u64_to_f64.ensures ∙ ap (λ n. of_int binary64 (pos n)) c.pow.ensures in
    let y : c.nearest_u64_to_f64-2.result ≡ of_int binary64 (pos (10 ^ others)) = c.nearest_u64_to_f64-2.ensures ∙ ap (λ n. of_int binary64 (pos n)) c.pow-2.ensures in
    let all : fewer + others ≡ c.args.places = omega arith in
    ap (λ n. mul binary64 n c.nearest_u64_to_f64-2.result) x
    ∙ ap (mul binary64 (of_int binary64 (pos (10 ^ fewer)))) y
    ∙ mul-tens fewer others (omega arith) (omega arith)
    ∙ ap (λ p. of_int binary64 (pos (10 ^ p))) all
