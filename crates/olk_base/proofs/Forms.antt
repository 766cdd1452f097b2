-- What a pattern stands for, from the body at its start and what is left behind it.
use Rattle.std.proofs.Common.{◌≡◌, ◌≢◌, ℕ, true, false, cond, List, [], ◌∷◌, length, chars, encode_utf8_all, refl, sym, ◌∙◌, ap, bytes_eq, Option, Some, None, option_map, MatchOption}
use Rattle.std.specs.Bool.{◌==◌}
use Rattle.std.specs.Prelude.{codes}
use Rattle.std.proofs.lemmas.Bool.Decides.{Decides-eqb}
use Rattle.olk_spec.specs.Names.{Text, is_empty}
use Rattle.olk_spec.specs.Literals.{body_of, single, suffix, anchored, literal, literal_in, Literal, IsPatternOf}
use Rattle.olk_spec.proofs.Bodies.{not_true}
use Rattle.olk_spec.proofs.Grammar.{literal_is_grammar}
use Rattle.olk_base.proofs.Bodies.{is_empty-encode}

pub literal-anchored : (p b : List ℕ) → bytes_eq p (codes "^\\S*$") ≡ false → p ≡ 94 ∷ b → literal_in p ≡ anchored b
literal-anchored p b h e = let g : bytes_eq (94 ∷ b) (codes "^\\S*$") ≡ false = ap (λ x. bytes_eq x (codes "^\\S*$")) (sym e) ∙ h in rw (e, g) refl

pub anchored-body : (b : List ℕ) → ((r : List ℕ) → b ≢ 40 ∷ r) → anchored b ≡ single (body_of b)
anchored-body [] n = refl
anchored-body (c ∷ cs) n =
    let no : (c == 40) ≡ false = not_true (c == 40) (λ t. n cs (ap (λ x. x ∷ cs) ((Decides-eqb c 40).0 t))) in
    rw no refl

module _ (r : List ℕ × List ℕ) (text : List ℕ) (e : text ≡ encode_utf8_all r.0) (h : (length text == 0) ≡ true) where
  no_item : is_empty r.0 ≡ true
  no_item = sym (is_empty-encode r.0) ∙ ap (λ xs. length xs == 0) (sym e) ∙ h

  pub single-none : single r ≡ None
  single-none = rw no_item refl

  pub suffix-none : suffix r ≡ None
  suffix-none = rw no_item refl

not_empty : (xs : List ℕ) → bytes_eq xs [] ≡ false → is_empty xs ≡ false
not_empty [] e = cc
not_empty (x ∷ xs) e = refl

pub single-other : (r : List ℕ × List ℕ) → bytes_eq r.1 [] ≡ false → bytes_eq r.1 (codes "$") ≡ false → single r ≡ None
single-other r e f = let some = not_empty r.1 e in rw (some, f) (elim (is_empty r.0) as (λ b. cond {A = Option Literal} b None None ≡ None) [ true ↦ refl | false ↦ refl ])

-- what is read of a pattern is what the grammar has of it
pub stands_for : {A : Type 0} (f : A → Literal) (p : Text) (o : Option A) → option_map f o ≡ literal p → MatchOption o ((l : Literal) → ¬ IsPatternOf l (chars p)) (λ t. IsPatternOf (f t) (chars p))
stands_for f p None e = λ l s. let n : None ≡ Some l = e ∙ (literal_is_grammar p l).1 s in cc
stands_for f p (Some t) e = (literal_is_grammar p (f t)).0 (sym e)
