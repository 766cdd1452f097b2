use Rattle.std.proofs.Common.{sym, ◌∙◌, ap, nat_eq, chars, length}
use Rattle.olk_spec.specs.Literals.{body_of}
use Rattle.olk_base.proofs.Bodies.{is_empty-encode}
use Rattle.olk_bench.proofs.regexes.read_body.Goals as goal

pub returns-then-is_empty : goal.returns-then-is_empty
returns-then-is_empty c =
    let none = ap (λ n. nat_eq n 0) (sym c.in_ok-text.text.bytes.ok.0) ∙ sym c.is_empty.ensures ∙ c.if-is_empty.true in
    sym (is_empty-encode (body_of (chars c.args.pattern.now)).0) ∙ ap (λ xs. nat_eq (length xs) 0) (sym c.in_ok-text.ensures.text) ∙ none
