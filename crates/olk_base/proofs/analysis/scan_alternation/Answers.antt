use Rattle.std.proofs.Common.{rules, [], ◌∷◌, map, chars, string_bytes, sym, ◌∙◌, ap, arith, nat_eq}
use Rattle.std.proofs.lemmas.List.{map-append, length-map}
use Rattle.olk_base.proofs.Bodies.{HasBodies-more, alternation-empty, tested, tested-short, tested-closed, tested-open}
use Rattle.olk_base.proofs.analysis.scan_alternation.Goals as goal

pub returns-then-is_empty : goal.returns-then-is_empty
returns-then-is_empty c =
    let none = ap (λ n. nat_eq n 0) (sym c.in_ok-text.text.bytes.ok.0) ∙ sym c.is_empty.ensures ∙ c.if-is_empty.true in
    sym (alternation-empty _ _ _ _ _ c.loop-texts.invariant.read c.in_ok-text.ensures.text c.in_ok-text.ensures.rest none)

pub loop-texts-preserved : goal.loop-texts-preserved
loop-texts-preserved c =
    let some = ap (λ n. nat_eq n 0) (sym c.in_ok-text.text.bytes.ok.0) ∙ sym c.is_empty.ensures ∙ c.if-is_empty.false in
    let more = HasBodies-more _ _ _ _ _ c.loop-texts.invariant.read c.in_ok-text.ensures.text c.in_ok-text.ensures.rest some (chars c.in-Some.next.now) c.in-Some.ensures.cases in
    record {
      utf8 = search rules;
      read = rw (c.in_ok-push.ensures.items, map-append) more;
    }

pub returns-then-is_ascii_text : goal.returns-then-is_ascii_text
returns-then-is_ascii_text c =
    let some = ap (λ n. nat_eq n 0) (sym c.in_ok-text.text.bytes.ok.0) ∙ sym c.is_empty.ensures ∙ c.if-is_empty.false in
    let t = tested _ _ _ _ _ c.loop-texts.invariant.read c.in_ok-text.ensures.text c.in_ok-text.ensures.rest some c.in_default.ensures.cases in
    let all = sym (ap (map string_bytes) c.in_ok-push.ensures.items ∙ map-append string_bytes c.loop-texts.texts.items (c.in_ok-text.text ∷ [])) in
    let count = length-map c.push.new.self.items string_bytes ∙ sym c.push.new.self.ok.0 ∙ sym c.len.ensures in
    tested-closed _ (map string_bytes c.push.new.self.items) _ (rw all at t) (omega (arith, count, c.if-len-lt-FEWEST_ALTERNATIVES.false)) (sym c.if-is_ascii_text.ensures)

pub returns-then-len-lt-FEWEST_ALTERNATIVES : goal.returns-then-len-lt-FEWEST_ALTERNATIVES
returns-then-len-lt-FEWEST_ALTERNATIVES c =
    let some = ap (λ n. nat_eq n 0) (sym c.in_ok-text.text.bytes.ok.0) ∙ sym c.is_empty.ensures ∙ c.if-is_empty.false in
    let t = tested _ _ _ _ _ c.loop-texts.invariant.read c.in_ok-text.ensures.text c.in_ok-text.ensures.rest some c.in_default.ensures.cases in
    let all = sym (ap (map string_bytes) c.in_ok-push.ensures.items ∙ map-append string_bytes c.loop-texts.texts.items (c.in_ok-text.text ∷ [])) in
    let count = length-map c.push.new.self.items string_bytes ∙ sym c.push.new.self.ok.0 ∙ sym c.len.ensures in
    tested-short _ (map string_bytes c.push.new.self.items) _ (rw all at t) (omega (arith, count, c.if-len-lt-FEWEST_ALTERNATIVES.true))

pub returns-else-is_ascii_text : goal.returns-else-is_ascii_text
returns-else-is_ascii_text c =
    let some = ap (λ n. nat_eq n 0) (sym c.in_ok-text.text.bytes.ok.0) ∙ sym c.is_empty.ensures ∙ c.if-is_empty.false in
    let t = tested _ _ _ _ _ c.loop-texts.invariant.read c.in_ok-text.ensures.text c.in_ok-text.ensures.rest some c.in_default.ensures.cases in
    let all = sym (ap (map string_bytes) c.in_ok-push.ensures.items ∙ map-append string_bytes c.loop-texts.texts.items (c.in_ok-text.text ∷ [])) in
    let count = length-map c.push.new.self.items string_bytes ∙ sym c.push.new.self.ok.0 ∙ sym c.len.ensures in
    tested-open _ (map string_bytes c.push.new.self.items) _ (rw all at t) (omega (arith, count, c.if-len-lt-FEWEST_ALTERNATIVES.false)) (sym c.if-is_ascii_text.ensures)
