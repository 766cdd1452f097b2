-- What stands before an end and behind a beginning of a text.
use Rattle.std.proofs.Common.{◌≡◌, true, false, ◌-◌, take, drop, length, nat_eq, cond, Option, Some, None, option_map, unwrap_or, Bor, MatchOption, refl, sym, ap, ◌∙◌}
use Rattle.std.specs.List.{starts_with, ends_with}
use Rattle.std.specs.Str.Pattern.{FindsTextPrefix, FindsTextSuffix, StripsPrefix, StripsSuffix}
use Rattle.std.proofs.lemmas.Bool.Decides.{Decides-eqb}
use Rattle.std.proofs.lemmas.Slice.Eq.{starts_is, ends_is}
use Rattle.std.proofs.lemmas.Str.Pattern.{starts_text, ends_text}
use Rattle.olk_spec.specs.Names.{Text}
use Rattle.olk_drafts.specs.Drafts.{behind, without_end}

pub strips_start : (r : Option (Bor Text)) (start t : Text) → MatchOption r (FindsTextPrefix start t None) (λ x. StripsPrefix (FindsTextPrefix start) t x.now) → option_map (λ x. x.now) r ≡ behind start t
strips_start None start t h = ap (λ b. cond b (Some (drop (length start) t)) None) (starts_text false start t h)
strips_start (Some x) start t h =
    let starts : starts_with nat_eq t start ≡ true = (starts_is Decides-eqb t start _ refl).1 _ h.1.1 in
    ap Some (h.2 ∙ ap (λ n. drop n t) h.1.0) ∙ sym (ap (λ b. cond b (Some (drop (length start) t)) None) starts)

pub strips_end : (r : Option (Bor Text)) (end : Text) (t : Bor Text) → MatchOption r (FindsTextSuffix end t.now None) (λ x. StripsSuffix (FindsTextSuffix end) t.now x.now) → (unwrap_or r t).now ≡ without_end end t.now
strips_end None end t h = ap (λ b. cond b (take (length t.now - length end) t.now) t.now) (ends_text false end t.now h)
strips_end (Some x) end t h =
    let ends : ends_with nat_eq t.now end ≡ true = (ends_is Decides-eqb t.now end _ refl).1 _ h.1.1 in
    h.2 ∙ ap (λ n. take (length t.now - n) t.now) h.1.0 ∙ sym (ap (λ b. cond b (take (length t.now - length end) t.now) t.now) ends)
