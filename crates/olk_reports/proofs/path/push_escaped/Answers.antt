use Rattle.std.proofs.Common.{map-id, ◌++◌, string_bytes, ap, ◌∙◌, sym}
use Rattle.std.proofs.lemmas.List.{append-nil, flat_map_more}
use Rattle.std.proofs.lemmas.Iterator.{YieldsList-from_chars}
use Rattle.std.proofs.lemmas.Iterator.Consumers.{YieldsList-end}
use Rattle.std.specs.List.{flat_map}
use Rattle.olk_reports.specs.Paths.{escaped_char}
use Rattle.olk_reports.proofs.Paths.{escaped_chars, pushed_plain, kept_plain, on_err}
use Rattle.olk_reports.proofs.path.push_escaped.Goals as goal

pub returns : goal.returns
returns c =
    let t = YieldsList-end (YieldsList-from_chars c.args.segment.now c.utf8.segment cc) c.loop-c.yielded _ c.loop-c.yielded_by _ _ c.in-None.is c.next.ensures.steps in
    let text = c.loop-c.invariant ∙ ap (λ l. string_bytes c.args.text.now ++ flat_map escaped_char l) (sym (map-id c.loop-c.yielded) ∙ t.0) ∙ ap (λ l. string_bytes c.args.text.now ++ l) (escaped_chars c.args.segment.now c.utf8.segment) in
    record { ok = text; err = tt }

pub returns-then-is_plain-clause-ok : goal.returns-then-is_plain-clause-ok
returns-then-is_plain-clause-ok c =
    pushed_plain c.push_str.result (string_bytes c.args.text.now) (string_bytes c.push_str.new.self) c.args.segment.now c.push_str.ensures.bytes (sym c.if-is_plain.ensures)

pub returns-then-is_plain-clause-err : goal.returns-then-is_plain-clause-err
returns-then-is_plain-clause-err c = kept_plain c.push_str.result (string_bytes c.args.text.now) (string_bytes c.push_str.new.self) c.args.segment.now c.push_str.ensures.bytes

pub loop-c-init : goal.loop-c-init
loop-c-init c = sym (append-nil (string_bytes c.args.text.now))

pub loop-c-preserved : goal.loop-c-preserved
loop-c-preserved c = c.in_ok-push_char.ensures ∙ ap (λ l. l ++ escaped_char c.in-Some.c) c.loop-c.invariant ∙ flat_map_more escaped_char (string_bytes c.args.text.now) c.loop-c.yielded c.in-Some.c

pub returns-in_err-push_char-clause-err : goal.returns-in_err-push_char-clause-err
returns-in_err-push_char-clause-err c = on_err c.from_residual.result (flat_map escaped_char c.loop-c.yielded, c.in_err-push_char.ensures ∙ c.loop-c.invariant)
