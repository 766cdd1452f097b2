use Rattle.std.proofs.Common.{sym, ap, ◌∙◌, ◌||◌}
use Rattle.std.specs.Float.{two_to}
use Rattle.std.specs.Float.Ieee.{of_bits, le}
use Rattle.olk_numbers.proofs.numbers.is_beyond_64_bits.Goals as goal

pub returns-then-x : goal.returns-then-x
unfolding of_bits
returns-then-x c = c.if-x.true ∙ sym (ap (λ b. b || le (two_to 64) c.args.x) c.if-x.true)

pub returns-else-x : goal.returns-else-x
unfolding of_bits
returns-else-x c = sym (ap (λ b. b || le (two_to 64) c.args.x) c.if-x.false)
