-- What a walk over the bodies of an alternation has read so far.
use Rattle.std.proofs.Common.{◌≡◌, ◌≢◌, ℕ, suc, ◌<◌, ◌≤◌, Bool, true, false, cond, not, ◌&&◌, List, [], ◌∷◌, ◌++◌, map, length, chars, encode_utf8_all, encode_utf8, refl, sym, ◌∙◌, ap, append_assoc, length-append, arith, IsUtf8, IsAscii, bytes_eq, Option, Some, None, zero}
use Rattle.std.specs.Bool.{◌==◌}
use Rattle.std.specs.List.{list_all}
use Rattle.std.specs.Prelude.{nat_le, nat_lt, codes}
use Rattle.std.proofs.lemmas.Str.{encodes-chars, encodes-IsAscii, chars-IsAscii, length-encode, len_utf8_bounds}
use Rattle.std.proofs.lemmas.List.{length-map}
use Rattle.std.proofs.lemmas.Bool.Decides.{same_from_decides, nat_tests, Decides-eqb}
use Rattle.std.proofs.lemmas.Slice.Eq.{bytes_eq-Decides}
use Rattle.olk_spec.specs.Names.{is_empty}
use Rattle.olk_spec.specs.Literals.{body_of, bodies_of, alternation, is_one_of, Literal}
use Rattle.olk_spec.proofs.Bodies.{joined, bodies_is, not_true}

ascii_from_test : (bs : List ℕ) → list_all (λ b. nat_lt b 128) bs ≡ true → IsAscii bs
ascii_from_test [] h i = omega arith
ascii_from_test (b ∷ bs) h zero = grind (arith, nat_tests)
ascii_from_test (b ∷ bs) h (suc i) = ascii_from_test bs (grind (arith, nat_tests)) i

-- an ASCII text is told by its characters
pub same_chars : (text literal : List ℕ) → IsUtf8 text → list_all (λ b. nat_lt b 128) literal ≡ true → bytes_eq text literal ≡ bytes_eq (chars text) literal
same_chars text literal u h =
    let a = ascii_from_test literal h in
    let d = bytes_eq-Decides text literal in
    let e = bytes_eq-Decides (chars text) literal in
    same_from_decides (bytes_eq text literal) (bytes_eq (chars text) literal) d (
      λ t. sym (encodes-chars text u) ∙ ap encode_utf8_all (e.0 t) ∙ encodes-IsAscii literal a,
      λ p. e.1 (ap chars p ∙ chars-IsAscii literal a),
    )

-- what the walk has read of the bodies: these texts, none of them empty, and `rest` is left
pub record HasBodies (pattern : List ℕ) (texts : List (List ℕ)) (rest : List ℕ) : Type 0 where
  pub items : List (List ℕ)
  pub texts_are : texts ≡ map encode_utf8_all items
  pub full : list_all (λ t. not (is_empty t)) items ≡ true
  pub left : bodies_of pattern ≡ (items ++ (bodies_of rest).0, (bodies_of rest).1)

list_all-push : (xs : List (List ℕ)) (x : List ℕ) → list_all (λ t. not (is_empty t)) xs ≡ true → is_empty x ≡ false → list_all (λ t. not (is_empty t)) (xs ++ x ∷ []) ≡ true
list_all-push [] x h e = rw e refl
list_all-push ([] ∷ xs) x h e = h
list_all-push ((y ∷ ys) ∷ xs) x h e = list_all-push xs x h e

list_all-hit : (xs : List (List ℕ)) (x : List ℕ) (ys : List (List ℕ)) → is_empty x ≡ true → list_all (λ t. not (is_empty t)) (xs ++ x ∷ ys) ≡ false
list_all-hit [] x ys e = rw e refl
list_all-hit ([] ∷ xs) x ys e = refl
list_all-hit ((z ∷ zs) ∷ xs) x ys e = list_all-hit xs x ys e

map-push : (xs : List (List ℕ)) (x : List ℕ) → map encode_utf8_all (xs ++ x ∷ []) ≡ map encode_utf8_all xs ++ encode_utf8_all x ∷ []
map-push [] x = refl
map-push (y ∷ xs) x = ap (λ ys. encode_utf8_all y ∷ ys) (map-push xs x)

pub is_empty-encode : (cs : List ℕ) → (length (encode_utf8_all cs) == 0) ≡ is_empty cs
is_empty-encode [] = refl
is_empty-encode (c ∷ cs) =
    not_true (length (encode_utf8_all (c ∷ cs)) == 0)
    (λ t.
    let e : length (encode_utf8 c ++ encode_utf8_all cs) ≡ 0 = (Decides-eqb (length (encode_utf8_all (c ∷ cs))) 0).0 t in
    omega (arith, length-append (encode_utf8 c) (encode_utf8_all cs), length-encode c, (len_utf8_bounds c).0, e))

-- where no bar follows, the body is the last
joined_last : (t r : List ℕ) → ((n : List ℕ) → r ≢ 124 ∷ n) → joined t r ≡ (t ∷ [], r)
unfolding joined
joined_last t [] h = refl
joined_last t (d ∷ r) h =
    let no : (d == 124) ≡ false = not_true (d == 124) (λ e. h r (ap (λ x. x ∷ r) ((Decides-eqb d 124).0 e))) in
    rw no refl

joined_first : (t r : List ℕ) → (ts : List (List ℕ)) × ((joined t r).0 ≡ t ∷ ts)
unfolding joined
joined_first t [] = ([], refl)
joined_first t (d ∷ r) =
    elim (d == 124) as (λ b. (ts : List (List ℕ)) × ((cond {A = List (List ℕ) × List ℕ} b (t ∷ (bodies_of r).0, (bodies_of r).1) (t ∷ [], d ∷ r)).0 ≡ t ∷ ts)) [
      | true ↦
          ((bodies_of r).0, refl)
      | false ↦ ([], refl)
    ]

module _ (pattern : List ℕ) (texts : List (List ℕ)) (rest text after : List ℕ) (h : HasBodies pattern texts rest) (e : text ≡ encode_utf8_all (body_of rest).0)
    (f : after ≡ (body_of rest).1) where
  not_empty : (length text == 0) ≡ false → is_empty (body_of rest).0 ≡ false
  not_empty n = sym (is_empty-encode (body_of rest).0) ∙ ap (λ xs. length xs == 0) (sym e) ∙ n

  texts_more : texts ++ text ∷ [] ≡ map encode_utf8_all (h.items ++ (body_of rest).0 ∷ [])
  texts_more = ap (λ xs. xs ++ text ∷ []) h.texts_are ∙ ap (λ x. map encode_utf8_all h.items ++ x ∷ []) e ∙ sym (map-push h.items (body_of rest).0)

  -- a body and a bar more
  pub HasBodies-more : (length text == 0) ≡ false → (next : List ℕ) → after ≡ 124 ∷ next → HasBodies pattern (texts ++ text ∷ []) next
  unfolding joined
  HasBodies-more n next b =
      let j : bodies_of rest ≡ ((body_of rest).0 ∷ (bodies_of next).0, (bodies_of next).1) = bodies_is rest ∙ ap (joined (body_of rest).0) (sym f ∙ b) in
      record {
        items = h.items ++ (body_of rest).0 ∷ [];
        texts_are = texts_more;
        full = list_all-push h.items (body_of rest).0 h.full (not_empty n);
        left = h.left ∙ ap (λ r. (h.items ++ r.0, r.1)) j ∙ ap (λ xs. (xs, (bodies_of next).1)) (sym (append_assoc h.items ((body_of rest).0 ∷ []) (bodies_of next).0));
      }

  -- the last body
  module _ (n : (length text == 0) ≡ false) (last : (r : List ℕ) → after ≢ 124 ∷ r) where
    all_read : bodies_of pattern ≡ (h.items ++ (body_of rest).0 ∷ [], after)
    all_read =
        let j : bodies_of rest ≡ ((body_of rest).0 ∷ [], (body_of rest).1) = bodies_is rest ∙ joined_last (body_of rest).0 (body_of rest).1 (λ r. λ k. last r (f ∙ k)) in
        h.left ∙ ap (λ r. (h.items ++ r.0, r.1)) j ∙ ap (λ r. (h.items ++ (body_of rest).0 ∷ [], r)) (sym f)

    count_is : length (h.items ++ (body_of rest).0 ∷ []) ≡ length (texts ++ text ∷ [])
    count_is = sym (ap length texts_more ∙ length-map (h.items ++ (body_of rest).0 ∷ []) encode_utf8_all)

    pub tested : alternation (bodies_of pattern) ≡ cond (nat_le 2 (length (texts ++ text ∷ [])) && bytes_eq after (codes ")$")) (Some (is_one_of (texts ++ text ∷ []))) None
    tested = rw (all_read, list_all-push h.items (body_of rest).0 h.full (not_empty n), count_is, texts_more) refl

  -- an empty body
  pub alternation-empty : (length text == 0) ≡ true → alternation (bodies_of pattern) ≡ None
  alternation-empty n =
      let none : is_empty (body_of rest).0 ≡ true = sym (is_empty-encode (body_of rest).0) ∙ ap (λ xs. length xs == 0) (sym e) ∙ n in
      let first = joined_first (body_of rest).0 (body_of rest).1 in
      let j : (bodies_of rest).0 ≡ (body_of rest).0 ∷ first.0 = ap (λ r. r.0) (bodies_is rest) ∙ first.1 in
      rw (h.left, j, list_all-hit h.items (body_of rest).0 first.0 none) refl

-- how `tested` answers
module _ (o : Option Literal) (texts : List (List ℕ)) (b : Bool) (t : o ≡ cond (nat_le 2 (length texts) && b) (Some (is_one_of texts)) None) where
  pub tested-short : length texts < 2 → None ≡ o
  tested-short h = let l : nat_le 2 (length texts) ≡ false = grind (arith, nat_tests) in sym (t ∙ rw l refl)

  pub tested-closed : 2 ≤ length texts → b ≡ true → Some (is_one_of texts) ≡ o
  tested-closed h e = let l : nat_le 2 (length texts) ≡ true = grind (arith, nat_tests) in sym (t ∙ rw (l, e) refl)

  pub tested-open : 2 ≤ length texts → b ≡ false → None ≡ o
  tested-open h e = let l : nat_le 2 (length texts) ≡ true = grind (arith, nat_tests) in sym (t ∙ rw (l, e) refl)
