use Rattle.std.proofs.Common.{◌∷◌, ◌∙◌, ap, chars, sym}
use Rattle.std.proofs.lemmas.Str.{chars_past_char}
use Rattle.olk_base.proofs.analysis.split_char.Goals as goal

pub returns-clause-cases : goal.returns-clause-cases
returns-clause-cases c =
    let first = c.in_ok-first.first in
    chars_past_char c.args.text.now c.next.new.self.rest.now first c.utf8.text (sym c.chars-chars.ensures.rest ∙ c.in_ok-first.ensures.steps.0)
    ∙ ap (λ xs. first ∷ chars xs) (sym c.as_str.ensures)
