-- What `literal` is of each shape of pattern.
use Rattle.std.proofs.Common.{◌≡◌, ◌≢◌, ℕ, false, true, List, [], ◌∷◌, refl, sym, ◌∙◌, ap, bytes_eq, Some}
use Rattle.std.specs.Bool.{◌==◌}
use Rattle.std.specs.Prelude.{codes}
use Rattle.std.proofs.lemmas.Bool.Decides.{Decides-eqb}
use Rattle.olk_spec.specs.Literals.{body_of, bodies_of, alternation, single, suffix, literal_in, has_no_whitespace}
use Rattle.olk_spec.proofs.Bodies.{not_true}

pub literal-white : (p : List ℕ) → bytes_eq p (codes "^\\S*$") ≡ true → literal_in p ≡ Some has_no_whitespace
literal-white [] h = absurd (let n : false ≡ true = h in cc)
literal-white (c ∷ cs) h = rw h refl

pub literal-suffix : (p : List ℕ) → bytes_eq p (codes "^\\S*$") ≡ false → ((r : List ℕ) → p ≢ 94 ∷ r) → literal_in p ≡ suffix (body_of p)
literal-suffix [] h n = refl
literal-suffix (c ∷ cs) h n =
    let no : (c == 94) ≡ false = not_true _ (λ e. n cs (ap (λ x. x ∷ cs) ((Decides-eqb c 94).0 e))) in
    rw (h, no) refl

pub literal-bodies : (p b bs : List ℕ) → p ≡ 94 ∷ b → b ≡ 40 ∷ bs → literal_in p ≡ alternation (bodies_of bs)
literal-bodies p b bs e f = rw (e, f) refl

pub literal-body : (p b : List ℕ) → bytes_eq p (codes "^\\S*$") ≡ false → p ≡ 94 ∷ b → ((r : List ℕ) → b ≢ 40 ∷ r) → literal_in p ≡ single (body_of b)
literal-body p [] h e n = rw e refl
literal-body p (c ∷ cs) h e n =
    let no : (c == 40) ≡ false = not_true _ (λ t. n cs (ap (λ x. x ∷ cs) ((Decides-eqb c 40).0 t))) in
    let g : bytes_eq (94 ∷ c ∷ cs) (codes "^\\S*$") ≡ false = ap (λ x. bytes_eq x (codes "^\\S*$")) (sym e) ∙ h in
    rw (e, g, no) refl
