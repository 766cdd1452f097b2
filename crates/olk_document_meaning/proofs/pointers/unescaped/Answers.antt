use Rattle.std.proofs.Common.{◌≡◌, [], ◌∷◌, ◌++◌, string_bytes, encode_utf8, sym, ap, ◌∙◌, arith, rules}
use Rattle.std.proofs.lemmas.Str.Pattern.{split_parts}
use Rattle.serde_json.specs.Find.{unescape}
use Rattle.serde_json.proofs.Paths.{unescape_plain}
use Rattle.olk_document_meaning.proofs.Escapes.{name_through_escape}
use Rattle.olk_document_meaning.proofs.pointers.unescaped.Goals as goal

pub loop-plain-preserved : goal.loop-plain-preserved
loop-plain-preserved c =
    let l = c.loop-plain in
    let name = string_bytes l.name in
    let plain = c.in-Some.plain.now in
    let character = c.escaped-character.result.0 in
    let more = c.escaped-character.result.1.now in
    let cut = rw c.in-Some.is at (split_parts 126 l.rest.now c.split_once.result c.split_once.ensures.cases (omega arith)) in
    let pushed : string_bytes c.push.new.self ≡ (name ++ plain) ++ character ∷ [] =
    c.in_ok-push.ensures.bytes ∙ ap (λ t. t ++ encode_utf8 character) c.in_ok-push_str.ensures.bytes ∙ ap (λ t. (name ++ plain) ++ t) (c.in_ok-push.ensures.ascii c.escaped-character.ensures.ascii) in
    (l.invariant.0 ∙ name_through_escape name plain c.in-Some.behind.now more l.rest.now character cut.0 cut.1 c.escaped-character.ensures.value ∙ ap (λ t. t ++ unescape more) (sym pushed), search rules)

pub returns : goal.returns
returns c =
    let l = c.loop-plain in
    let none = rw c.in_default.is at (split_parts 126 l.rest.now c.split_once.result c.split_once.ensures.cases (omega arith)) in
    c.in_ok-push_str-2.ensures.bytes ∙ sym (l.invariant.0 ∙ ap (λ t. string_bytes l.name ++ t) (unescape_plain l.rest.now none))
