-- `literal` is the grammar: a pattern stands for a test just where `literal` gives that test.
use Rattle.std.proofs.Common.{◌≡◌, ◌≢◌, ℕ, ◌≤◌, Bool, true, false, cond, not, ◌&&◌, ◌⊎◌, inl, inr, List, [], ◌∷◌, ◌++◌, map, length, encode_utf8_all, refl, sym, ◌∙◌, ap, subst, append_assoc, append-nil, arith, bytes_eq, Some, None, chars}
use Rattle.std.specs.Bool.{◌==◌}
use Rattle.std.specs.Prelude.{codes, nat_le}
use Rattle.std.specs.List.{list_all, join_with_byte}
use Rattle.std.proofs.lemmas.Bool.Decides.{Decides-eqb, nat_tests}
use Rattle.std.proofs.lemmas.Slice.Eq.{bytes_eq-Decides}
use Rattle.olk_spec.specs.Literals.{Spells, none, plain, escaped, AreBodies, IsPatternOf, body_of, escape_of, put_front, bodies_of, escape_in, put_first, is_special, is_escapable, alternation, single, suffix, anchored, literal_in, literal, Literal_is_grammar, Literal, starts_with_text, ends_with_text, equals_text, is_one_of, has_no_whitespace}
use Rattle.olk_spec.specs.Names.{is_empty}
use Rattle.olk_spec.proofs.Bodies.{not_true, bodies_is, joined}
use Rattle.olk_spec.proofs.LiteralForms.{literal-white, literal-suffix, literal-body, literal-bodies}

bool_cases : (b : Bool) → (b ≡ true) ⊎ (b ≡ false)
bool_cases true = inl refl
bool_cases false = inr refl

and_true : (a b : Bool) → (a && b) ≡ true → (a ≡ true) × (b ≡ true)
and_true true b h = (refl, h)
and_true false b h = absurd (let n : false ≡ true = h in cc)

-- ---- what is read is spelled

-- the items at the start of cs spell x, and y is left
record Splits (cs x y : List ℕ) : Type 0 where
  front : List ℕ
  whole : cs ≡ front ++ y
  spells : Spells front x

split_plain : (c : ℕ) (cs x y : List ℕ) → is_special c ≡ false → Splits cs x y → Splits (c ∷ cs) (c ∷ x) y
split_plain c cs x y h s = record { front = c ∷ s.front; whole = ap (λ xs. c ∷ xs) s.whole; spells = plain h s.spells }

split_escaped : (b c : ℕ) (cs x y : List ℕ) → b ≡ 92 → is_escapable c ≡ true → Splits cs x y → Splits (b ∷ c ∷ cs) (c ∷ x) y
split_escaped b c cs x y e h s = record { front = b ∷ c ∷ s.front; whole = ap (λ xs. b ∷ c ∷ xs) s.whole; spells = escaped e h s.spells }

split_none : (cs : List ℕ) → Splits cs [] cs
split_none cs = record { front = []; whole = refl; spells = none }

-- the choice of one of two readings
splits_by : (cs : List ℕ) (b : Bool) (r s : List ℕ × List ℕ) → (b ≡ true → Splits cs r.0 r.1) → (b ≡ false → Splits cs s.0 s.1) → Splits cs (cond b r s).0 (cond b r s).1
splits_by cs true r s f g = f refl
splits_by cs false r s f g = g refl

mutual
  body_splits : (cs : List ℕ) → Splits cs (body_of cs).0 (body_of cs).1
  body_splits [] = split_none []
  body_splits (c ∷ cs) =
      splits_by (c ∷ cs) (c == 92) (escape_of c cs) (cond (is_special c) ([], c ∷ cs) (put_front c (body_of cs)))
      (λ e. escape_splits c cs ((Decides-eqb c 92).0 e))
      (λ _. splits_by (c ∷ cs) (is_special c) ([], c ∷ cs) (put_front c (body_of cs)) (λ _. split_none (c ∷ cs)) (λ h. split_plain c cs (body_of cs).0 (body_of cs).1 h (body_splits cs)))

  escape_splits : (b : ℕ) (cs : List ℕ) → b ≡ 92 → Splits (b ∷ cs) (escape_of b cs).0 (escape_of b cs).1
  escape_splits b [] e = split_none (b ∷ [])
  escape_splits b (c ∷ cs) e =
      splits_by (b ∷ c ∷ cs) (is_escapable c) (put_front c (body_of cs)) ([], b ∷ c ∷ cs)
      (λ h. split_escaped b c cs (body_of cs).0 (body_of cs).1 e h (body_splits cs)) (λ _. split_none (b ∷ c ∷ cs))

-- one body

single_stands : (cs x y : List ℕ) (t : Literal) → Splits cs x y → single (x, y) ≡ Some t → IsPatternOf t (94 ∷ cs)
single_stands cs [] y t s h = absurd (let n : None ≡ Some t = h in cc)
single_stands cs (c ∷ x) [] t s h =
    let e : starts_with_text (encode_utf8_all (c ∷ x)) ≡ t = let n : Some (starts_with_text (encode_utf8_all (c ∷ x))) ≡ Some t = h in cc in
    subst (λ l. IsPatternOf l (94 ∷ cs)) e
    (s.front, ap (λ xs. 94 ∷ xs) (s.whole ∙ append-nil s.front), record { spelled = c ∷ x; spells = s.spells; some = λ n. cc; text = refl })
single_stands cs (c ∷ x) (d ∷ y) t s h =
    elim (bool_cases (bytes_eq (d ∷ y) (codes "$"))) [
      | inl g ↦
          let n : Some (equals_text (encode_utf8_all (c ∷ x))) ≡ Some t = rw g at h in
          let e : equals_text (encode_utf8_all (c ∷ x)) ≡ t = cc in
          subst (λ l. IsPatternOf l (94 ∷ cs)) e
          (s.front, ap (λ xs. 94 ∷ xs) (s.whole ∙ ap (λ xs. s.front ++ xs) ((bytes_eq-Decides (d ∷ y) (codes "$")).0 g)), record { spelled = c ∷ x; spells = s.spells; some = λ n. cc; text = refl })
      | inr g ↦ absurd (let n : None ≡ Some t = rw g at h in cc)
    ]

suffix_stands : (cs x y : List ℕ) (t : Literal) → Splits cs x y → suffix (x, y) ≡ Some t → IsPatternOf t cs
suffix_stands cs [] y t s h = absurd (let n : None ≡ Some t = h in cc)
suffix_stands cs (c ∷ x) y t s h =
    elim (bool_cases (bytes_eq y (codes "$"))) [
      | inl g ↦
          let n : Some (ends_with_text (encode_utf8_all (c ∷ x))) ≡ Some t = rw g at h in
          let e : ends_with_text (encode_utf8_all (c ∷ x)) ≡ t = cc in
          subst (λ l. IsPatternOf l cs) e
          (s.front, s.whole ∙ ap (λ xs. s.front ++ xs) ((bytes_eq-Decides y (codes "$")).0 g), record { spelled = c ∷ x; spells = s.spells; some = λ n. cc; text = refl })
      | inr g ↦ absurd (let n : None ≡ Some t = rw g at h in cc)
    ]

-- ---- bodies

-- each of bs spells the one of ts in its place
AllSpell : List (List ℕ) → List (List ℕ) → Type 0
AllSpell [] [] = Unit {0}
AllSpell [] (t ∷ ts) = ⊥
AllSpell (b ∷ bs) [] = ⊥
AllSpell (b ∷ bs) (t ∷ ts) = Spells b t × AllSpell bs ts

bars : List (List ℕ) → List ℕ
bars bs = join_with_byte 124 bs

-- the bodies at the start of cs spell ts, and y is left
record Parts (cs : List ℕ) (ts : List (List ℕ)) (y : List ℕ) : Type 0 where
  first : List ℕ
  others : List (List ℕ)
  whole : cs ≡ bars (first ∷ others) ++ y
  spell : AllSpell (first ∷ others) ts

bars_cons : (c : ℕ) (b : List ℕ) (bs : List (List ℕ)) → bars ((c ∷ b) ∷ bs) ≡ c ∷ bars (b ∷ bs)
unfolding bars
bars_cons c b [] = refl
bars_cons c b (d ∷ bs) = refl

bars_more : (b : List ℕ) (bs : List (List ℕ)) → bars ([] ∷ b ∷ bs) ≡ 124 ∷ bars (b ∷ bs)
unfolding bars
bars_more b bs = refl

parts_none : (cs : List ℕ) → Parts cs ([] ∷ []) cs
unfolding bars AllSpell
parts_none cs = record { first = []; others = []; whole = refl; spell = (none, tt) }

parts_bar : (cs : List ℕ) (ts : List (List ℕ)) (y : List ℕ) → Parts cs ts y → Parts (124 ∷ cs) ([] ∷ ts) y
unfolding AllSpell
parts_bar cs ts y s = record { first = []; others = s.first ∷ s.others; whole = ap (λ xs. 124 ∷ xs) s.whole ∙ ap (λ xs. xs ++ y) (sym (bars_more s.first s.others)); spell = (none, s.spell) }

parts_put : (c : ℕ) (p : List ℕ → List ℕ) (cs : List ℕ) (r : List (List ℕ) × List ℕ)
    → ((b t : List ℕ) → Spells b t → Spells (p b) (c ∷ t)) → ((b : List ℕ) (bs : List (List ℕ)) → bars (p b ∷ bs) ≡ p (bars (b ∷ bs))) → ((xs ys : List ℕ) → p (xs ++ ys) ≡ p xs ++ ys)
    → Parts cs r.0 r.1 → Parts (p cs) (put_first c r).0 (put_first c r).1
unfolding AllSpell
parts_put c p cs ([], y) f g k s = absurd s.spell
parts_put c p cs (t ∷ ts, y) f g k s =
    record { first = p s.first; others = s.others; whole = ap p s.whole ∙ k (bars (s.first ∷ s.others)) y ∙ ap (λ xs. xs ++ y) (sym (g s.first s.others)); spell = (f s.first t s.spell.0, s.spell.1) }

parts_by : (cs : List ℕ) (b : Bool) (r s : List (List ℕ) × List ℕ) → (b ≡ true → Parts cs r.0 r.1) → (b ≡ false → Parts cs s.0 s.1) → Parts cs (cond b r s).0 (cond b r s).1
parts_by cs true r s f g = f refl
parts_by cs false r s f g = g refl

mutual
  bodies_parts : (cs : List ℕ) → Parts cs (bodies_of cs).0 (bodies_of cs).1
  bodies_parts [] = parts_none []
  bodies_parts (c ∷ cs) =
      parts_by (c ∷ cs) (c == 92) (escape_in c cs) (cond (c == 124) ([] ∷ (bodies_of cs).0, (bodies_of cs).1) (cond (is_special c) ([] ∷ [], c ∷ cs) (put_first c (bodies_of cs))))
      (λ e. escape_parts c cs ((Decides-eqb c 92).0 e))
      (λ _. parts_by (c ∷ cs) (c == 124) ([] ∷ (bodies_of cs).0, (bodies_of cs).1) (cond (is_special c) ([] ∷ [], c ∷ cs) (put_first c (bodies_of cs)))
      (λ e. let P : ℕ → Type 0 = λ x. Parts (x ∷ cs) ([] ∷ (bodies_of cs).0) (bodies_of cs).1 in subst P (sym ((Decides-eqb c 124).0 e)) (parts_bar cs (bodies_of cs).0 (bodies_of cs).1 (bodies_parts cs)))
      (λ _. parts_by (c ∷ cs) (is_special c) ([] ∷ [], c ∷ cs) (put_first c (bodies_of cs)) (λ _. parts_none (c ∷ cs))
      (λ h. parts_put c (λ xs. c ∷ xs) cs (bodies_of cs) (λ b t s. plain h s) (bars_cons c) (λ xs ys. refl) (bodies_parts cs))))

  escape_parts : (b : ℕ) (cs : List ℕ) → b ≡ 92 → Parts (b ∷ cs) (escape_in b cs).0 (escape_in b cs).1
  escape_parts b [] e = parts_none (b ∷ [])
  escape_parts b (c ∷ cs) e =
      parts_by (b ∷ c ∷ cs) (is_escapable c) (put_first c (bodies_of cs)) ([] ∷ [], b ∷ c ∷ cs)
      (λ h. parts_put c (λ xs. b ∷ c ∷ xs) cs (bodies_of cs) (λ b' t s. escaped e h s) (λ x bs. bars_cons b (c ∷ x) bs ∙ ap (λ xs. b ∷ xs) (bars_cons c x bs)) (λ xs ys. refl)
      (bodies_parts cs))
      (λ _. parts_none (b ∷ c ∷ cs))

bodies_from : (bs ts : List (List ℕ)) → AllSpell bs ts → list_all (λ t. not (is_empty t)) ts ≡ true → AreBodies bs (map encode_utf8_all ts)
unfolding AllSpell
bodies_from [] [] s h = tt
bodies_from (b ∷ bs) ([] ∷ ts) s h = absurd (let n : false ≡ true = h in cc)
bodies_from (b ∷ bs) ((c ∷ t) ∷ ts) s h = (record { spelled = c ∷ t; spells = s.0; some = λ n. cc; text = refl }, bodies_from bs ts s.1 h)
bodies_from _ _ s h = absurd s

spell_length : (bs ts : List (List ℕ)) → AllSpell bs ts → length bs ≡ length ts
unfolding AllSpell
spell_length [] [] s = refl
spell_length (b ∷ bs) (t ∷ ts) s = let e = spell_length bs ts s.1 in omega (arith, e)
spell_length _ _ s = absurd s

alternation_stands : (cs : List ℕ) (ts : List (List ℕ)) (y : List ℕ) (t : Literal) → Parts cs ts y → alternation (ts, y) ≡ Some t → IsPatternOf t (94 ∷ 40 ∷ cs)
unfolding bars
alternation_stands cs ts y t s h =
    elim (bool_cases (list_all (λ t. not (is_empty t)) ts && nat_le 2 (length ts) && bytes_eq y (codes ")$"))) [
      | inl g ↦
          let n : Some (is_one_of (map encode_utf8_all ts)) ≡ Some t = rw g at h in
          let e : is_one_of (map encode_utf8_all ts) ≡ t = cc in
          let outer = and_true (list_all (λ t. not (is_empty t)) ts && nat_le 2 (length ts)) (bytes_eq y (codes ")$")) g in
          let inner = and_true (list_all (λ t. not (is_empty t)) ts) (nat_le 2 (length ts)) outer.0 in
          let two : 2 ≤ length ts = let i = inner.1 in grind (arith, nat_tests) in
          let same = spell_length (s.first ∷ s.others) ts s.spell in
          subst (λ l. IsPatternOf l (94 ∷ 40 ∷ cs)) e (
            s.first ∷ s.others,
            ap (λ xs. 94 ∷ 40 ∷ xs) (s.whole ∙ ap (λ xs. bars (s.first ∷ s.others) ++ xs) ((bytes_eq-Decides y (codes ")$")).0 outer.1)),
            omega (arith, two, same),
            bodies_from (s.first ∷ s.others) ts s.spell inner.0,
          )
      | inr g ↦ absurd (let n : None ≡ Some t = rw g at h in cc)
    ]

anchored_stands : (cs : List ℕ) (t : Literal) → anchored cs ≡ Some t → IsPatternOf t (94 ∷ cs)
anchored_stands [] t h = absurd (let n : None ≡ Some t = h in cc)
anchored_stands (c ∷ cs) t h =
    elim (bool_cases (c == 40)) [
      | inl e ↦
          let k : alternation (bodies_of cs) ≡ Some t = rw e at h in
          let P : ℕ → Type 0 = λ x. IsPatternOf t (94 ∷ x ∷ cs) in
          subst P (sym ((Decides-eqb c 40).0 e)) (alternation_stands cs (bodies_of cs).0 (bodies_of cs).1 t (bodies_parts cs) k)
      | inr e ↦
          let k : single (body_of (c ∷ cs)) ≡ Some t = rw e at h in
          single_stands (c ∷ cs) (body_of (c ∷ cs)).0 (body_of (c ∷ cs)).1 t (body_splits (c ∷ cs)) k
    ]

-- what `literal` gives is what the pattern stands for
pub literal-stands : (p : List ℕ) (t : Literal) → literal_in p ≡ Some t → IsPatternOf t p
literal-stands [] t h = absurd (let n : None ≡ Some t = h in cc)
literal-stands (c ∷ cs) t h =
    elim (bool_cases (bytes_eq (c ∷ cs) (codes "^\\S*$"))) [
      | inl e ↦
          let n : Some has_no_whitespace ≡ Some t = rw e at h in
          let k : has_no_whitespace ≡ t = cc in
          subst (λ l. IsPatternOf l (c ∷ cs)) k ((bytes_eq-Decides (c ∷ cs) (codes "^\\S*$")).0 e)
      | inr e ↦ elim (bool_cases (c == 94)) [
        | inl f ↦
            let k : anchored cs ≡ Some t = rw (e, f) at h in
            let P : ℕ → Type 0 = λ x. IsPatternOf t (x ∷ cs) in
            subst P (sym ((Decides-eqb c 94).0 f)) (anchored_stands cs t k)
        | inr f ↦
            let k : suffix (body_of (c ∷ cs)) ≡ Some t = rw (e, f) at h in
            suffix_stands (c ∷ cs) (body_of (c ∷ cs)).0 (body_of (c ∷ cs)).1 t (body_splits (c ∷ cs)) k
      ]
    ]

-- ---- what is spelled is read

not_special_not_backslash : (c : ℕ) → is_special c ≡ false → (c == 92) ≡ false
not_special_not_backslash c h = not_true (c == 92) (λ t. let P : ℕ → Type 0 = λ x. is_special x ≡ false in let n : true ≡ false = subst P ((Decides-eqb c 92).0 t) h in cc)

-- what follows the items begins with no item
body_reads : (b t r : List ℕ) → Spells b t → body_of r ≡ ([], r) → body_of (b ++ r) ≡ (t, r)
body_reads _ _ r none e = e
body_reads _ _ r (plain {c} {p} {t} h s) e = rw (not_special_not_backslash c h, h) (ap (put_front c) (body_reads p t r s e))
body_reads _ _ r (escaped {b} {c} {p} {t} k h s) e =
    let P : ℕ → Type 0 = λ x. body_of (x ∷ c ∷ (p ++ r)) ≡ (c ∷ t, r) in
    subst P (sym k) (rw h (ap (put_front c) (body_reads p t r s e)))

bodies_read : (b : List ℕ) (bs ts : List (List ℕ)) (y : List ℕ) → AllSpell (b ∷ bs) ts → body_of y ≡ ([], y) → ((n : List ℕ) → joined n y ≡ (n ∷ [], y)) → bodies_of (bars (b ∷ bs) ++ y) ≡ (ts, y)
unfolding AllSpell bars joined
bodies_read b [] [] y s e l = absurd s
bodies_read b (d ∷ bs) [] y s e l = absurd s
bodies_read b [] (t ∷ []) y s e l = bodies_is (b ++ y) ∙ ap (λ r. joined r.0 r.1) (body_reads b t y s.0 e) ∙ l t
bodies_read b (d ∷ bs) (t ∷ u ∷ ts) y s e l =
    let tail = bars (d ∷ bs) ++ y in
    ap bodies_of (append_assoc b (124 ∷ bars (d ∷ bs)) y)
    ∙ bodies_is (b ++ 124 ∷ tail) ∙ ap (λ r. joined r.0 r.1) (body_reads b t (124 ∷ tail) s.0 refl)
    ∙ ap (λ r. (t ∷ r.0, r.1)) (bodies_read d bs (u ∷ ts) y s.1 e l)
bodies_read b _ _ y s e l = absurd s.1

is_empty_of : (x : List ℕ) → x ≢ [] → is_empty x ≡ false
is_empty_of [] n = absurd (n refl)
is_empty_of (c ∷ x) n = refl

-- a pattern of one body is read as that body
body_literal : (p b y x : List ℕ) → p ≡ 94 ∷ b → body_of b ≡ (x, y) → x ≢ [] → literal_in p ≡ single (x, y)
body_literal p b y x e r n =
    let white : bytes_eq p (codes "^\\S*$") ≡ false =
    not_true (bytes_eq p (codes "^\\S*$"))
    (λ t.
    let w : 94 ∷ b ≡ codes "^\\S*$" = sym e ∙ (bytes_eq-Decides p (codes "^\\S*$")).0 t in
    let k : b ≡ 92 ∷ 83 ∷ 42 ∷ 36 ∷ [] = cc in
    n (ap (λ q. q.0) (sym r ∙ ap body_of k))) in
    literal-body p b white e (λ q k. n (ap (λ q. q.0) (sym r ∙ ap body_of k))) ∙ ap single r

-- a pattern that begins with a body is no other form
body_suffix : (p y x : List ℕ) → body_of p ≡ (x, y) → x ≢ [] → literal_in p ≡ suffix (x, y)
body_suffix p y x r n =
    let white : bytes_eq p (codes "^\\S*$") ≡ false =
    not_true (bytes_eq p (codes "^\\S*$")) (λ t. n (ap (λ q. q.0) (sym r ∙ ap body_of ((bytes_eq-Decides p (codes "^\\S*$")).0 t)))) in
    literal-suffix p white (λ q k. n (ap (λ q. q.0) (sym r ∙ ap body_of k))) ∙ ap suffix r

-- the texts of the bodies, in characters
record Read (bs ts : List (List ℕ)) : Type 0 where
  items : List (List ℕ)
  spell : AllSpell bs items
  full : list_all (λ t. not (is_empty t)) items ≡ true
  texts : map encode_utf8_all items ≡ ts

read_bodies : (bs ts : List (List ℕ)) → AreBodies bs ts → Read bs ts
unfolding AllSpell
read_bodies [] [] a = record { items = []; spell = tt; full = refl; texts = refl }
read_bodies (b ∷ bs) (t ∷ ts) a =
    let rest = read_bodies bs ts a.1 in
    record {
      items = a.0.spelled ∷ rest.items;
      spell = (a.0.spells, rest.spell);
      full = rw (is_empty_of a.0.spelled a.0.some) rest.full;
      texts = ap (λ x. x ∷ map encode_utf8_all rest.items) (sym a.0.text) ∙ ap (λ xs. t ∷ xs) rest.texts;
    }
read_bodies _ _ a = absurd a

-- what the pattern stands for is what `literal` gives
pub stands-literal : (p : List ℕ) (t : Literal) → IsPatternOf t p → literal_in p ≡ Some t
unfolding bars joined
stands-literal p (starts_with_text t) s =
    let x = s.2.spelled in
    let r : body_of s.0 ≡ (x, []) = ap body_of (sym (append-nil s.0)) ∙ body_reads s.0 x [] s.2.spells refl in
    let single_is : single (x, []) ≡ Some (starts_with_text (encode_utf8_all x)) = rw (is_empty_of x s.2.some) refl in
    body_literal p s.0 [] x s.1 r s.2.some ∙ single_is ∙ ap (λ y. Some (starts_with_text y)) (sym s.2.text)
stands-literal p (ends_with_text t) s =
    let x = s.2.spelled in
    let r : body_of p ≡ (x, 36 ∷ []) = ap body_of s.1 ∙ body_reads s.0 x (36 ∷ []) s.2.spells refl in
    let suffix_is : suffix (x, 36 ∷ []) ≡ Some (ends_with_text (encode_utf8_all x)) = rw (is_empty_of x s.2.some) refl in
    body_suffix p (36 ∷ []) x r s.2.some ∙ suffix_is ∙ ap (λ y. Some (ends_with_text y)) (sym s.2.text)
stands-literal p (equals_text t) s =
    let x = s.2.spelled in
    let r : body_of (s.0 ++ 36 ∷ []) ≡ (x, 36 ∷ []) = body_reads s.0 x (36 ∷ []) s.2.spells refl in
    let single_is : single (x, 36 ∷ []) ≡ Some (equals_text (encode_utf8_all x)) = rw (is_empty_of x s.2.some) refl in
    body_literal p (s.0 ++ 36 ∷ []) (36 ∷ []) x s.1 r s.2.some ∙ single_is ∙ ap (λ y. Some (equals_text y)) (sym s.2.text)
stands-literal p (is_one_of ts) ([], e, two, a) = absurd (omega (arith, two))
stands-literal p (is_one_of ts) (b ∷ bs, e, two, a) =
    let read = read_bodies (b ∷ bs) ts a in
    let y : List ℕ = 41 ∷ 36 ∷ [] in
    let r : bodies_of (bars (b ∷ bs) ++ y) ≡ (read.items, y) = bodies_read b bs read.items y read.spell refl (λ n. refl) in
    let count : nat_le 2 (length read.items) ≡ true = let l = spell_length (b ∷ bs) read.items read.spell in grind (arith, nat_tests) in
    let alternation_is : alternation (read.items, y) ≡ Some (is_one_of (map encode_utf8_all read.items)) = rw (read.full, count) refl in
    literal-bodies p (40 ∷ (bars (b ∷ bs) ++ y)) (bars (b ∷ bs) ++ y) e refl ∙ ap alternation r ∙ alternation_is ∙ ap (λ xs. Some (is_one_of xs)) read.texts
stands-literal p has_no_whitespace s = literal-white p ((bytes_eq-Decides p (codes "^\\S*$")).1 s)

pub literal_is_grammar : Literal_is_grammar
unfolding literal
literal_is_grammar p l = (literal-stands (chars p) l, stands-literal (chars p) l)
