use Rattle.std.proofs.Common.{◌≡◌, false, [], bytes_eq, rules, sym, ◌∙◌, ap, nat_eq, chars, string_bytes}
use Rattle.std.specs.Prelude.{codes}
use Rattle.olk_spec.specs.Literals.{body_of}
use Rattle.olk_base.proofs.Forms.{anchored-body, single-none, single-other}
use Rattle.olk_base.proofs.analysis.scan_anchored.Goals as goal

pub returns-then-is_empty : goal.returns-then-is_empty
returns-then-is_empty c =
    let none = ap (λ n. nat_eq n 0) (sym c.in_ok-text.text.bytes.ok.0) ∙ sym c.is_empty.ensures ∙ c.if-is_empty.true in
    sym (anchored-body (chars c.args.pattern.now) c.in_default.ensures.cases
    ∙ single-none (body_of (chars c.args.pattern.now)) (string_bytes c.in_ok-text.text) c.in_ok-text.ensures.text none)

pub returns-then-is_ascii_text-2 : goal.returns-then-is_ascii_text-2
returns-then-is_ascii_text-2 c = search rules

pub returns-else-is_ascii_text-2 : goal.returns-else-is_ascii_text-2
returns-else-is_ascii_text-2 c =
    let body = body_of (chars c.args.pattern.now) in
    let empty : bytes_eq body.1 [] ≡ false = ap (λ xs. bytes_eq xs []) (sym c.in_ok-text.ensures.rest) ∙ sym c.if-is_ascii_text.ensures in
    let dollar : bytes_eq body.1 (codes "$") ≡ false = ap (λ xs. bytes_eq xs (codes "$")) (sym c.in_ok-text.ensures.rest) ∙ sym c.if-is_ascii_text-2.ensures in
    sym (anchored-body (chars c.args.pattern.now) c.in_default.ensures.cases ∙ single-other body empty dollar)
