use Rattle.std.proofs.Common.{Some, None, sym, ap, ◌∙◌, if◌then◌else◌}
use Rattle.olk_numbers.specs.Numbers.{whole_part}
use Rattle.olk_numbers.proofs.Remainders.{whole_part_read}
use Rattle.olk_numbers.proofs.numbers.natural_float.Goals as goal

pub returns-then-is_natural : goal.returns-then-is_natural
returns-then-is_natural c =
    let natural = sym c.is_natural.ensures ∙ c.if-is_natural.true in
    ap Some (whole_part_read c.args.x c.saturating_f64_to_u64.result natural c.saturating_f64_to_u64.ensures)
    ∙ sym (ap (λ b. if b then Some (whole_part c.args.x) else None) natural)
