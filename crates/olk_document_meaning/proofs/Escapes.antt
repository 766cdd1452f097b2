-- The escapes of a segment of a pointer.
use Rattle.std.proofs.Common.{◌≡◌, ◌≢◌, ℕ, suc, [], ◌∷◌, ◌++◌, refl, sym, ap, ◌∙◌, arith, append_assoc, ne_eqb}
use Rattle.olk_spec.specs.Names.{Text}
use Rattle.serde_json.specs.Find.{unescape}
use Rattle.serde_json.proofs.Paths.{Lacks}

-- what stands before the first `~` stands for itself
pub unescape_behind : (plain rest : Text) → Lacks 126 plain → unescape (plain ++ rest) ≡ plain ++ unescape rest
unfolding unescape
unescape_behind [] rest lacks = refl
unescape_behind (x ∷ []) [] lacks = refl
unescape_behind (x ∷ []) (y ∷ rest) lacks = rw (ne_eqb x 126 (lacks 0 (omega arith)))
unescape_behind (x ∷ y ∷ plain) rest lacks =
    rw (ne_eqb x 126 (lacks 0 (omega arith))) (ap (λ t. x ∷ t) (unescape_behind (y ∷ plain) rest (λ i less. lacks (suc i) (omega arith))))

-- a `~` before neither `0` nor `1` stands for itself
pub open_tilde : (behind : Text) → ((rest : Text) → behind ≢ 48 ∷ rest) → ((rest : Text) → behind ≢ 49 ∷ rest) → unescape (126 ∷ behind) ≡ 126 ∷ unescape behind
unfolding unescape
open_tilde [] no_zero no_one = refl
open_tilde (x ∷ behind) no_zero no_one =
    rw (ne_eqb x 48 (λ e. no_zero behind (ap (λ y. y ∷ behind) e)), ne_eqb x 49 (λ e. no_one behind (ap (λ y. y ∷ behind) e)))

-- a name that is read so far, and what the next `~` stands for
pub name_through_escape : (name plain behind more rest : Text) (c : ℕ) → rest ≡ plain ++ 126 ∷ behind → Lacks 126 plain → unescape (126 ∷ behind) ≡ c ∷ unescape more
    → name ++ unescape rest ≡ ((name ++ plain) ++ c ∷ []) ++ unescape more
name_through_escape name plain behind more rest c cut lacks stands =
    ap (λ t. name ++ unescape t) cut ∙ ap (λ t. name ++ t) (unescape_behind plain (126 ∷ behind) lacks ∙ ap (λ t. plain ++ t) stands)
    ∙ sym (append_assoc name plain (c ∷ unescape more)) ∙ sym (append_assoc (name ++ plain) (c ∷ []) (unescape more))
