use Rattle.std.proofs.Common.{◌≡◌, ℕ, List, Bool, true, false, cond, None, IsUtf8, refl, sym, ◌∙◌, true≢false}
use Rattle.std.specs.Str.{is_utf8}
use Rattle.std.proofs.lemmas.Str.{IsUtf8-from_is_utf8, is_utf8-from_IsUtf8}
use Rattle.serde_json.specs.Read.{read}
use Rattle.olk_cli.proofs.answer.read_value.Goals as goal

none_at : (line : List ℕ) (b : Bool) → is_utf8 line ≡ b → (IsUtf8 line → read line ≡ None) → None ≡ cond b (read line) None
none_at line true e h = sym (h (IsUtf8-from_is_utf8 line e))
none_at line false e h = refl

pub returns-in-Ok : goal.returns-in-Ok
returns-in-Ok c =
    let ok = c.in-Ok.ensures.ok in
    rw (is_utf8-from_IsUtf8 c.args.line.now ok.0) (sym ok.1)

pub returns-else-is_memory : goal.returns-else-is_memory
returns-else-is_memory c =
    none_at c.args.line.now _ refl (c.in-Err.ensures.err (λ m. true≢false (sym (c.is_memory.ensures.1 m) ∙ c.if-is_memory.false)))
