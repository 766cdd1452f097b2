use Rattle.std.proofs.Common.{◌^◌, pos, ap, ◌∙◌, arith}
use Rattle.std.specs.Float.{binary64}
use Rattle.std.specs.Float.Ieee.{of_int, div}
use Rattle.olk_numbers.proofs.Powers.{of_int-ten, div-wholes, ten_pos}
use Rattle.olk_numbers.proofs.Remainders.{of_int-exact}
use Rattle.olk_numbers.proofs.decimals.Decimal.nearest_double.Goals as goal

pub returns : goal.returns
returns c =
    let digits = c.args.self.digits in
    let places = c.args.self.places in
    let x = of_int binary64 (pos digits) in
    let y = of_int binary64 (pos (10 ^ places)) in
    ap (λ n. div binary64 n c.power_of_ten.result) c.nearest_u64_to_f64.ensures
    ∙ ap (div binary64 x) c.power_of_ten.ensures
    ∙ div-wholes x y digits (10 ^ places) (of_int-exact digits (omega arith)) (of_int-ten places c.requires.places) (ten_pos places)
