use Rattle.std.proofs.Common.{◌≡◌, pos, true, int_lt, unsigned_abs, ap, ◌∙◌, arith, to_z-of_z}
use Rattle.std.specs.Option.{option_map}
use Rattle.std.specs.Ordering.{ordering_reverse}
use Rattle.olk_numbers.proofs.Comparisons.{below_zero_order}
use Rattle.olk_numbers.proofs.numbers.compare_to_signed.Goals as goal

pub returns-then-n-lt0 : goal.returns-then-n-lt0
returns-then-n-lt0 c =
    let below : int_lt c.args.n (pos 0) ≡ true = grind (arith, to_z-of_z) in
    let size : c.unsigned_abs.result ≡ unsigned_abs c.args.n = grind (arith, to_z-of_z) in
    c.reversed.ensures ∙ ap (option_map ordering_reverse) c.compare_to_unsigned.ensures ∙ below_zero_order c.args.x c.args.n c.unsigned_abs.result below size
