-- The test and the language are one.
use Rattle.std.proofs.Common.{◌≡◌, ℕ, Bool, true, false, ◌||◌, ◌&&◌, List, [], ◌∷◌, ◌++◌, ◌⊎◌, inl, inr, refl, ◌∙◌, ap}
use Rattle.std.specs.List.{All}
use Rattle.std.proofs.lemmas.List.Elements.{All-nil, All-cons, All-head, All-tail}
use Rattle.olk_regexes.specs.Class.{has}
use Rattle.olk_regexes.specs.Language.{Text, Expr, blank, one, seq, alt, star, Matches, Finds, joined}
use Rattle.olk_regexes.specs.Marks.{no_text, one_of, after, split, going, many, matches}
use Rattle.olk_regexes.specs.Search.{some_prefix, finds_in, finds}
use Rattle.olk_regexes.proofs.Splits.{going-split}

pub or-to : (a b : Bool) → (a || b) ≡ true → (a ≡ true) ⊎ (b ≡ true)
or-to true b e = inl refl
or-to false b e = inr e

pub and-to : (a b : Bool) → (a && b) ≡ true → (a ≡ true) × (b ≡ true)
and-to true b e = (refl, e)
and-to false b e = absurd (cc e)

or-right : (a b : Bool) → b ≡ true → (a || b) ≡ true
or-right true b e = refl
or-right false b e = e

or-left : (a b : Bool) → a ≡ true → (a || b) ≡ true
or-left a b e = ap (λ x. x || b) e

pub and-from : (a b : Bool) → a ≡ true → b ≡ true → (a && b) ≡ true
and-from a b ea eb = ap (λ x. x && b) ea ∙ eb

no_text-to : (w : Text) → no_text w ≡ true → w ≡ []
no_text-to [] e = refl
no_text-to (c ∷ w) e = absurd (cc e)

abbrev Split : (Text → Bool) → (Text → Bool) → Text → Type 0
Split f g w = (u : Text) × (v : Text) × (f u ≡ true) × (g v ≡ true) × (w ≡ u ++ v)

split-to : (f g : Text → Bool) (w : Text) → split f g w ≡ true → Split f g w
split-to f g [] e = let h = and-to (f []) (g []) e in ([], [], h.0, h.1, refl)
split-to f g (c ∷ w) e =
    elim (or-to (f [] && g (c ∷ w)) (split (after c f) g w) e) as (λ _. Split f g (c ∷ w)) [
      | inl a ↦ let h = and-to (f []) (g (c ∷ w)) a in ([], c ∷ w, h.0, h.1, refl)
      | inr b ↦ let h = split-to (after c f) g w b in (c ∷ h.0, h.1, h.2, h.3, ap (λ t. c ∷ t) h.4)
    ]

split-from : (f g : Text → Bool) (u v : Text) → f u ≡ true → g v ≡ true → split f g (u ++ v) ≡ true
split-from f g [] [] a b = and-from (f []) (g []) a b
split-from f g [] (c ∷ v) a b = or-left (f [] && g (c ∷ v)) (split (after c f) g v) (and-from (f []) (g (c ∷ v)) a b)
split-from f g (c ∷ u) v a b = or-right (f [] && g (c ∷ (u ++ v))) (split (after c f) g (u ++ v)) (split-from (after c f) g u v a b)

abbrev Going : (Text → Bool) → (Text → Bool) → Text → Type 0
Going f h w = (u : Text) × (us : List Text) × (h u ≡ true) × (All (λ v. f v ≡ true) us) × (w ≡ u ++ joined us)

going-to : (f h : Text → Bool) (w : Text) → going f h w ≡ true → Going f h w
going-to f h [] e = ([], [], e, All-nil (λ v. f v ≡ true), refl)
going-to f h (c ∷ w) e =
    elim (or-to (h [] && going f (after c f) w) (going f (after c h) w) e) as (λ _. Going f h (c ∷ w)) [
      | inl a ↦ let p = and-to (h []) (going f (after c f) w) a in let q = going-to f (after c f) w p.1 in
          ([], (c ∷ q.0) ∷ q.1, p.0, All-cons (λ v. f v ≡ true) (c ∷ q.0) q.1 q.2 q.3, ap (λ t. c ∷ t) q.4)
      | inr b ↦ let q = going-to f (after c h) w b in (c ∷ q.0, q.1, q.2, q.3, ap (λ t. c ∷ t) q.4)
    ]

abbrev Star : (Text → Bool) → Text → Type 0
Star f w = (us : List Text) × (All (λ v. f v ≡ true) us) × (w ≡ joined us)

star-to : (f : Text → Bool) (w : Text) → many f w ≡ true → Star f w
star-to f [] e = ([], All-nil (λ v. f v ≡ true), refl)
star-to f (c ∷ w) e = let q = going-to f (after c f) w e in
    ((c ∷ q.0) ∷ q.1, All-cons (λ v. f v ≡ true) (c ∷ q.0) q.1 q.2 q.3, ap (λ t. c ∷ t) q.4)

star-cons : (f : Text → Bool) (u : Text) (w : Text) → f u ≡ true → many f w ≡ true → many f (u ++ w) ≡ true
star-cons f [] w a b = b
star-cons f (c ∷ u) w a b = going-split f (after c f) (u ++ w) ∙ split-from (after c f) (many f) u w a b

star-from : (f : Text → Bool) (us : List Text) → All (λ v. f v ≡ true) us → many f (joined us) ≡ true
star-from f [] h = refl
star-from f (u ∷ us) h = star-cons f u (joined us) (All-head (λ v. f v ≡ true) u us h) (star-from f us (All-tail (λ v. f v ≡ true) u us h))

pub all-map : (P Q : Text → Type 0) → ((u : Text) → P u → Q u) → (us : List Text) → All P us → All Q us
all-map P Q g [] h = All-nil Q
all-map P Q g (u ∷ us) h = All-cons Q u us (g u (All-head P u us h)) (all-map P Q g us (All-tail P u us h))

one-to : (f : ℕ → Bool) (w : Text) → one_of f w ≡ true → (c : ℕ) × (f c ≡ true) × (w ≡ c ∷ [])
one-to f [] e = absurd (cc e)
one-to f (c ∷ w) e = let h = and-to (f c) (no_text w) e in (c, h.0, ap (λ t. c ∷ t) (no_text-to w h.1))

pub matches-to : (r : Expr) (w : Text) → matches r w ≡ true → Matches r w
matches-to blank w e = no_text-to w e
matches-to (one n rs) w e = one-to (has n rs) w e
matches-to (seq p q) w e = let h = split-to (matches p) (matches q) w e in
    (h.0, h.1, matches-to p h.0 h.2, matches-to q h.1 h.3, h.4)
matches-to (alt p q) w e =
    elim (or-to (matches p w) (matches q w) e) as (λ _. Matches p w ⊎ Matches q w) [
      | inl a ↦ inl (matches-to p w a)
      | inr b ↦ inr (matches-to q w b)
    ]
matches-to (star p) w e = let h = star-to (matches p) w e in
    (h.0, all-map (λ v. matches p v ≡ true) (Matches p) (λ u. matches-to p u) h.0 h.1, h.2)

pub matches-from : (r : Expr) (w : Text) → Matches r w → matches r w ≡ true
matches-from blank w h = ap no_text h
matches-from (one n rs) w h = ap (one_of (has n rs)) h.2 ∙ and-from (has n rs h.0) true h.1 refl
matches-from (seq p q) w h =
    ap (split (matches p) (matches q)) h.4 ∙
    split-from (matches p) (matches q) h.0 h.1 (matches-from p h.0 h.2) (matches-from q h.1 h.3)
matches-from (alt p q) w h =
    elim h as (λ _. (matches p w || matches q w) ≡ true) [
      | inl a ↦ or-left (matches p w) (matches q w) (matches-from p w a)
      | inr b ↦ or-right (matches p w) (matches q w) (matches-from q w b)
    ]
matches-from (star p) w h =
    ap (many (matches p)) h.2 ∙
    star-from (matches p) h.0 (all-map (Matches p) (λ v. matches p v ≡ true) (λ u. matches-from p u) h.0 h.1)

abbrev Begins : (Text → Bool) → Text → Type 0
Begins f w = (u : Text) × (a : Text) × (f u ≡ true) × (w ≡ u ++ a)

prefix-to : (f : Text → Bool) (w : Text) → some_prefix f w ≡ true → Begins f w
prefix-to f [] e = absurd (cc e)
prefix-to f (c ∷ w) e =
    elim (or-to (f (c ∷ [])) (some_prefix (after c f) w) e) as (λ _. Begins f (c ∷ w)) [
      | inl a ↦ (c ∷ [], w, a, refl)
      | inr b ↦ let q = prefix-to (after c f) w b in (c ∷ q.0, q.1, q.2, ap (λ t. c ∷ t) q.3)
    ]

prefix-from : (f : Text → Bool) (c : ℕ) (u a : Text) → f (c ∷ u) ≡ true → some_prefix f (c ∷ (u ++ a)) ≡ true
prefix-from f c [] a e = or-left (f (c ∷ [])) (some_prefix (after c f) a) e
prefix-from f c (d ∷ u) a e =
    or-right (f (c ∷ [])) (some_prefix (after c f) (d ∷ (u ++ a))) (prefix-from (after c f) d u a e)

abbrev Holds : (Text → Bool) → Text → Type 0
Holds f w = (b : Text) × (u : Text) × (a : Text) × (f u ≡ true) × (w ≡ b ++ (u ++ a))

finds_in-to : (f : Text → Bool) (w : Text) → finds_in f w ≡ true → Holds f w
finds_in-to f [] e = absurd (cc e)
finds_in-to f (c ∷ w) e =
    elim (or-to (some_prefix f (c ∷ w)) (finds_in f w) e) as (λ _. Holds f (c ∷ w)) [
      | inl a ↦ let q = prefix-to f (c ∷ w) a in ([], q.0, q.1, q.2, q.3)
      | inr b ↦ let q = finds_in-to f w b in (c ∷ q.0, q.1, q.2, q.3, ap (λ t. c ∷ t) q.4)
    ]

finds_in-from : (f : Text → Bool) (b : Text) (c : ℕ) (u a : Text) → f (c ∷ u) ≡ true → finds_in f (b ++ (c ∷ (u ++ a))) ≡ true
finds_in-from f [] c u a e = or-left (some_prefix f (c ∷ (u ++ a))) (finds_in f (u ++ a)) (prefix-from f c u a e)
finds_in-from f (d ∷ b) c u a e =
    or-right (some_prefix f (d ∷ (b ++ (c ∷ (u ++ a))))) (finds_in f (b ++ (c ∷ (u ++ a)))) (finds_in-from f b c u a e)

finds-at : (f : Text → Bool) (b u a : Text) → f u ≡ true → finds f (b ++ (u ++ a)) ≡ true
finds-at f b [] a e = or-left (f []) (finds_in f (b ++ a)) e
finds-at f b (c ∷ u) a e = or-right (f []) (finds_in f (b ++ (c ∷ (u ++ a)))) (finds_in-from f b c u a e)

pub finds-to : (r : Expr) (w : Text) → finds (matches r) w ≡ true → Finds r w
finds-to r w e =
    elim (or-to (matches r []) (finds_in (matches r) w) e) as (λ _. Finds r w) [
      | inl a ↦ ([], [], w, matches-to r [] a, refl)
      | inr b ↦ let q = finds_in-to (matches r) w b in (q.0, q.1, q.2, matches-to r q.1 q.3, q.4)
    ]

pub finds-from : (r : Expr) (w : Text) → Finds r w → finds (matches r) w ≡ true
finds-from r w h = ap (finds (matches r)) h.4 ∙ finds-at (matches r) h.0 h.1 h.2 (matches-from r h.1 h.3)
