-- A look-ahead at a text's start, by the standard's words.
use Rattle.std.proofs.Common.{◌≡◌, true, [], ◌++◌, Some, refl, ◌∙◌, ap, subst}
use Rattle.std.specs.List.{All}
use Rattle.olk_regexes.specs.Language.{Text, Expr, seq, framed}
use Rattle.olk_regexes.specs.Edges.{is_placed}
use Rattle.olk_regexes.specs.Places.{BeginsAt, FindsAt, IsChar, MatchesAt}
use Rattle.olk_regexes.specs.Rules.{Meets}
use Rattle.olk_regexes.specs.Syntax.{start}
use Rattle.olk_regexes.proofs.Asserted.{finds_at-to, finds_at-from}

begins-to : (p : Expr) (w : Text) → FindsAt (seq start p) w → BeginsAt p w
begins-to p w (b, x, a, (u, v, s, m, e), k) = (
  v,
  a,
  subst (λ t. MatchesAt p t v a) (ap (λ t. t ++ u) s.1 ∙ s.0) m,
  k ∙ ap (λ t. t ++ (x ++ a)) s.1 ∙ ap (λ t. t ++ a) (e ∙ ap (λ t. t ++ v) s.0),
)

begins-from : (p : Expr) (w : Text) → BeginsAt p w → FindsAt (seq start p) w
begins-from p w (u, a, m, e) = ([], u, a, ([], u, (refl, refl), m, refl), e)

pub met-to : (p q : Expr) (w : Text) → is_placed (seq start p) ≡ true → is_placed (seq start q) ≡ true → All IsChar w →
    Meets (seq start p, Some (seq start q)) (framed w) → BeginsAt p w × (BeginsAt q w → ⊥)
met-to p q w hp hq hw h =
    (begins-to p w (finds_at-to (seq start p) w hp hw h.0), λ b. h.1 (finds_at-from (seq start q) w hq (begins-from q w b)))

pub met-from : (p q : Expr) (w : Text) → is_placed (seq start p) ≡ true → is_placed (seq start q) ≡ true → All IsChar w →
    BeginsAt p w → (BeginsAt q w → ⊥) → Meets (seq start p, Some (seq start q)) (framed w)
met-from p q w hp hq hw b n =
    (finds_at-from (seq start p) w hp (begins-from p w b), λ f. n (begins-to q w (finds_at-to (seq start q) w hq hw f)))
