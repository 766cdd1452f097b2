use Rattle.std.proofs.Common.{◌≡◌, refl, rules, string_bytes}
use Rattle.olk_vocabulary.proofs.Kept.{text_kept}
use Rattle.olk_vocabulary.proofs.candidates.Kept.keep_text.Goals as goal

pub returns : goal.returns
returns c =
    let same : string_bytes c.in_ok-clone.field-0 ≡ string_bytes c.args.text.now = search rules in
    text_kept c.args.self.now _ c.in_ok-clone.field-0 (string_bytes c.args.text.now) same c.in_ok-insert.ensures.keys refl refl
