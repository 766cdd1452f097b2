-- The bodies of an alternation are read one by one.
use Rattle.std.proofs.Common.{◌≡◌, ℕ, Bool, true, false, cond, List, [], ◌∷◌, refl, ◌∙◌, ap, subst, arith}
use Rattle.std.specs.Bool.{◌==◌}
use Rattle.std.proofs.lemmas.Bool.Decides.{nat_tests, Decides-eqb}
use Rattle.olk_spec.specs.Literals.{body_of, escape_of, put_front, bodies_of, escape_in, put_first, is_special, is_escapable}

-- a first body t and what is left behind it
unfoldable pub joined : List ℕ → List ℕ → List (List ℕ) × List ℕ
joined t [] = (t ∷ [], [])
joined t (c ∷ r) = cond (c == 124) (t ∷ (bodies_of r).0, (bodies_of r).1) (t ∷ [], c ∷ r)

put_first-joined : (c : ℕ) (t r : List ℕ) → put_first c (joined t r) ≡ joined (c ∷ t) r
unfolding joined
put_first-joined c t [] = refl
put_first-joined c t (d ∷ r) =
    elim (d == 124) as (λ b. put_first c (cond b (t ∷ (bodies_of r).0, (bodies_of r).1) (t ∷ [], d ∷ r)) ≡ cond b ((c ∷ t) ∷ (bodies_of r).0, (bodies_of r).1) ((c ∷ t) ∷ [], d ∷ r)) [ true ↦ refl | false ↦ refl ]

pub not_true : (b : Bool) → (b ≡ true → ⊥) → b ≡ false
not_true true h = absurd (h refl)
not_true false h = refl

bar_is_special : (c : ℕ) → is_special c ≡ false → (c == 124) ≡ false
bar_is_special c h = not_true _ (λ t. let P : ℕ → Type 0 = λ x. is_special x ≡ false in let n : true ≡ false = subst P ((Decides-eqb c 124).0 t) h in cc)

backslash_is_no_bar : (c : ℕ) → (c == 92) ≡ true → (c == 124) ≡ false
backslash_is_no_bar c h = grind (arith, nat_tests)

escape_step : (b c : ℕ) (cs : List ℕ) (e : Bool) → (b == 124) ≡ false → bodies_of cs ≡ joined (body_of cs).0 (body_of cs).1
    → cond e (put_first c (bodies_of cs)) ([] ∷ [], b ∷ c ∷ cs) ≡ joined (cond e (put_front c (body_of cs)) ([], b ∷ c ∷ cs)).0 (cond e (put_front c (body_of cs)) ([], b ∷ c ∷ cs)).1
unfolding joined
escape_step b c cs true h i = ap (put_first c) i ∙ put_first-joined c (body_of cs).0 (body_of cs).1
escape_step b c cs false h i = rw h refl

one_step : (c : ℕ) (cs : List ℕ) (e s : Bool) → (s ≡ false → (c == 124) ≡ false) → bodies_of cs ≡ joined (body_of cs).0 (body_of cs).1
    → (e ≡ true → escape_in c cs ≡ joined (escape_of c cs).0 (escape_of c cs).1)
    → cond e (escape_in c cs) (cond (c == 124) ([] ∷ (bodies_of cs).0, (bodies_of cs).1) (cond s ([] ∷ [], c ∷ cs) (put_first c (bodies_of cs))))
    ≡ joined (cond e (escape_of c cs) (cond s ([], c ∷ cs) (put_front c (body_of cs)))).0 (cond e (escape_of c cs) (cond s ([], c ∷ cs) (put_front c (body_of cs)))).1
unfolding joined
one_step c cs true s h i j = j refl
one_step c cs false true h i j = refl
one_step c cs false false h i j = rw (h refl) (ap (put_first c) i ∙ put_first-joined c (body_of cs).0 (body_of cs).1)

mutual
  unfolding joined

  pub bodies_is : (cs : List ℕ) → bodies_of cs ≡ joined (body_of cs).0 (body_of cs).1
  bodies_is [] = refl
  bodies_is (c ∷ cs) = one_step c cs _ _ (bar_is_special c) (bodies_is cs) (escape_is c cs)

  pub escape_is : (b : ℕ) (cs : List ℕ) → (b == 92) ≡ true → escape_in b cs ≡ joined (escape_of b cs).0 (escape_of b cs).1
  escape_is b [] h = rw (backslash_is_no_bar b h) refl
  escape_is b (c ∷ cs) h = escape_step b c cs (is_escapable c) (backslash_is_no_bar b h) (bodies_is cs)
