use Rattle.std.proofs.Common.{◌≡◌, ◌++◌, ◌∷◌, [], string_bytes, sym, ◌∙◌, rules}
use Rattle.olk_base.proofs.Plain.{compact_text-plain}
use Rattle.olk_base.proofs.node.quoted_text.Goals as goal

pub returns : goal.returns
returns c =
    let between_quotes : string_bytes c.push-2.new.self ≡ 34 ∷ (c.args.text.now ++ 34 ∷ []) = search rules in
    between_quotes ∙ sym (compact_text-plain c.args.text.now (sym c.is_plain.ensures ∙ c.if-not-is_plain.false))
