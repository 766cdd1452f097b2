use Rattle.std.proofs.Common.{◌++◌, string_bytes, codes, decimal, append_assoc, ap, ◌∙◌}
use Rattle.olk_vocabulary.proofs.texts.push_others.Goals as goal

pub returns : goal.returns
returns c =
    let text = string_bytes c.args.text.now in
    let count = decimal c.args.count in
    let rest = codes " other candidates" in
    let led = c.in_ok-push_decimal.ensures ∙ ap (λ t. t ++ count) c.in_ok-push_str.ensures.bytes in
    c.in_ok-push_str-2.ensures.bytes ∙ ap (λ t. t ++ rest) led ∙ append_assoc (text ++ codes " or ") count rest ∙ append_assoc text (codes " or ") (count ++ rest)
