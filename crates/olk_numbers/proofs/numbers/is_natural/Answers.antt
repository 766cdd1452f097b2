use Rattle.std.proofs.Common.{sym, ap, ◌∙◌, ◌&&◌, true≢false}
use Rattle.std.specs.Float.{two_to}
use Rattle.std.specs.Float.Ieee.{of_bits, lt}
use Rattle.olk_numbers.specs.Numbers.{is_integral}
use Rattle.olk_numbers.proofs.numbers.is_natural.Goals as goal
use Rattle.olk_numbers.proofs.numbers.is_natural.Goals.{then-x, else-x}

pub returns-then-x-2 : goal.returns-then-x-2
unfolding of_bits
returns-then-x-2 c =
    elim c.if-x.branch [
      | then-x w ↦
          let not_below = ap (λ b. b && (lt c.args.x (two_to 64) && is_integral c.args.x)) w.if-x.true in
          c.has_no_fraction.ensures ∙ sym (not_below ∙ ap (λ b. b && is_integral c.args.x) (sym w.value-is ∙ c.if-x-2.true))
      | else-x w ↦ absurd (true≢false (sym c.if-x-2.true ∙ w.value-is ∙ w.if-x.false))
    ]

pub returns-else-x-2 : goal.returns-else-x-2
unfolding of_bits
returns-else-x-2 c =
    elim c.if-x.branch [
      | then-x w ↦
          let not_below = ap (λ b. b && (lt c.args.x (two_to 64) && is_integral c.args.x)) w.if-x.true in
          c.if-x-2.false ∙ sym (not_below ∙ ap (λ b. b && is_integral c.args.x) (sym w.value-is ∙ c.if-x-2.false))
      | else-x w ↦ c.if-x-2.false ∙ sym (ap (λ b. b && (lt c.args.x (two_to 64) && is_integral c.args.x)) w.if-x.false)
    ]
