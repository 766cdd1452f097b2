-- A framed text has a match where the text has one by the standard's `^` and `$`.
use Rattle.std.proofs.Common.{◌≡◌, ℕ, ◌<◌, Bool, true, false, not, cond, ◌||◌, ◌&&◌, List, [], ◌∷◌, ◌++◌, inl, inr, refl, sym, ◌∙◌, ap, subst, arith, append_assoc}
use Rattle.std.specs.List.{All, list_any, list_all}
use Rattle.std.proofs.lemmas.List.{append-nil}
use Rattle.std.proofs.lemmas.List.Elements.{All-nil, All-cons, All-head, All-tail}
use Rattle.std.proofs.lemmas.Bool.Decides.{nat_tests}
use lib.Dec.{leb}
use lib.Utf8.{scalar, scalar_cases}
use Rattle.olk_regexes.specs.Categories.{is_of}
use Rattle.olk_regexes.specs.Class.{has, within}
use Rattle.olk_regexes.specs.Language.{Text, Expr, blank, one, seq, alt, star, Matches, Finds, framed, joined}
use Rattle.olk_regexes.specs.Edges.{is_edge, are_characters, has_characters, starts_well, ends_well, characters, is_placed}
use Rattle.olk_regexes.specs.Places.{IsChar, OneAt, AllAt, MatchesAt, FindsAt}
use Rattle.olk_regexes.specs.declared.class.Characters.{Characters}
use Rattle.olk_regexes.specs.declared.class.Characters.TheVariants.{Range, Property}
use Rattle.olk_regexes.proofs.Equal.{or-to, and-to, all-map}

-- what is read of the frame before a text, and behind it
abbrev opening : Bool → Text
opening true = 1114112 ∷ []
opening false = []

abbrev closing : Bool → Text
closing true = 1114113 ∷ []
closing false = []

all-append : (u v : Text) → All IsChar u → All IsChar v → All IsChar (u ++ v)
all-append [] v hu hv = hv
all-append (c ∷ u) v hu hv = All-cons IsChar c (u ++ v) (All-head IsChar c u hu) (all-append u v (All-tail IsChar c u hu) hv)

cons-head : (c d : ℕ) (u v : Text) → c ∷ u ≡ d ∷ v → c ≡ d
cons-head c d u v e = cc e

cons-tail : (c d : ℕ) (u v : Text) → c ∷ u ≡ d ∷ v → u ≡ v
cons-tail c d u v e = cc e

-- A text, without what it has of the frame; `f` and `l` say whether it may have its start and its end.
abbrev Unframed : (Text → Text → Text → Type 0) → Bool → Bool → Text → Type 0
Unframed M f l w = (i : Bool) × (j : Bool) × (u : Text) × (w ≡ opening i ++ (u ++ closing j)) × (i ≡ true → f ≡ true) × (j ≡ true → l ≡ true)
    × (All IsChar u) × ((b a : Text) → (i ≡ true → b ≡ []) → (j ≡ true → a ≡ []) → M b u a)

-- the other way round
abbrev Reframed : (Text → Type 0) → Bool → Bool → Text → Text → Text → Type 0
Reframed N f l b u a = (i : Bool) × (j : Bool) × (N (opening i ++ (u ++ closing j))) × (i ≡ true → f ≡ true) × (j ≡ true → l ≡ true)
    × (i ≡ true → b ≡ []) × (j ≡ true → a ≡ [])

apart : {A : Type 0} (c d : ℕ) → c < d → c ≡ d → A
apart c d h e = absurd (omega arith)

no : {A : Type 0} → false ≡ true → A
no e = absurd (cc e)

or_no : (f : Bool) → (f || false) ≡ true → f ≡ true
or_no f e = grind arith

join_frames : (x u v y : Text) → (x ++ (u ++ [])) ++ (v ++ y) ≡ x ++ ((u ++ v) ++ y)
join_frames x u v y = simp (append_assoc, append-nil) refl

edge_one : (edge : ℕ) (n : Bool) (rs : List Characters) (c : ℕ) → is_edge edge n rs ≡ true → has n rs c ≡ true → c ≡ edge
edge_one edge true [] c e h = no e
edge_one edge false [] c e h = no e
edge_one edge true (r ∷ []) c e h = no e
edge_one edge false (Range low high ∷ []) c e h = grind (arith, nat_tests)
edge_one edge false (Property category negated ∷ []) c e h = no e
edge_one edge true (r ∷ s ∷ rs) c e h = no e
edge_one edge false (r ∷ s ∷ rs) c e h = no e

edge_has : (edge : ℕ) (n : Bool) (rs : List Characters) → is_edge edge n rs ≡ true → has n rs edge ≡ true
edge_has edge true [] e = no e
edge_has edge false [] e = no e
edge_has edge true (r ∷ []) e = no e
edge_has edge false (Range low high ∷ []) e = grind (arith, nat_tests)
edge_has edge false (Property category negated ∷ []) e = no e
edge_has edge true (r ∷ s ∷ rs) e = no e
edge_has edge false (r ∷ s ∷ rs) e = no e

scalar_char : (c : ℕ) → scalar c ≡ true → IsChar c
scalar_char c e =
    elim (scalar_cases c e) as (λ _. IsChar c) [
      | inl a ↦ omega arith
      | inr b ↦ b.1
    ]

in_characters : (m : Characters) (c : ℕ) → are_characters m ≡ true → within c m ≡ true → IsChar c
in_characters (Range low high) c e h = grind (arith, nat_tests)
in_characters (Property category negated) c e h =
    scalar_char c (and-to (scalar c) (cond negated (not (is_of category c)) (is_of category c)) h).0

in_members : (ms : List Characters) (c : ℕ) → list_all are_characters ms ≡ true → list_any (within c) ms ≡ true → IsChar c
in_members [] c e h = no h
in_members (m ∷ ms) c e h =
    let k = and-to (are_characters m) (list_all are_characters ms) e in
    elim (or-to (within c m) (list_any (within c) ms) h) as (λ _. IsChar c) [
      | inl a ↦ in_characters m c k.0 a
      | inr b ↦ in_members ms c k.1 b
    ]

class_char : (n : Bool) (rs : List Characters) (c : ℕ) → has_characters n rs ≡ true → has n rs c ≡ true → IsChar c
class_char true rs c e h = let k = and-to (not (list_any (within c) rs)) (leb c 1114111) h in grind (arith, nat_tests)
class_char false rs c e h = in_members rs c e h

un_one : (es ee f l n : Bool) (rs : List Characters) (w : Text) → is_edge 1114112 n rs ≡ es → is_edge 1114113 n rs ≡ ee →
    (f || not es) ≡ true → (l || not ee) ≡ true → (es || (ee || has_characters n rs)) ≡ true → Matches (one n rs) w →
    Unframed (OneAt es ee n rs) f l w
un_one true ee f l n rs w s e hs he hc m =
    (true, false, [], m.2 ∙ ap (λ x. x ∷ []) (edge_one 1114112 n rs m.0 s m.1), λ _. or_no f hs, λ z. no z, All-nil IsChar, λ b a hb ha. (refl, hb refl))
un_one false true f l n rs w s e hs he hc m =
    (false, true, [], m.2 ∙ ap (λ x. x ∷ []) (edge_one 1114113 n rs m.0 e m.1), λ z. no z, λ _. or_no l he, All-nil IsChar, λ b a hb ha. (refl, ha refl))
un_one false false f l n rs w s e hs he hc m =
    (false, false, m.0 ∷ [], m.2, λ z. no z, λ z. no z, All-cons IsChar m.0 [] (class_char n rs m.0 hc m.1) (All-nil IsChar), λ b a hb ha. (m.0, m.1, refl))

abbrev SeqAt : (Text → Text → Text → Type 0) → (Text → Text → Text → Type 0) → Text → Text → Text → Type 0
SeqAt M N b w a = (u : Text) × (v : Text) × (M b u (v ++ a)) × (N (b ++ u) v a) × (w ≡ u ++ v)

un_seq : (M N : Text → Text → Text → Type 0) (f l : Bool) (w x y : Text) → Unframed M f false x → Unframed N false l y → w ≡ x ++ y →
    Unframed (SeqAt M N) f l w
un_seq M N f l w x y (i, true, u, eu, hi, hj, cu, mu) q e = no (hj refl)
un_seq M N f l w x y (i, false, u, eu, hi, hj, cu, mu) (true, j, v, ev, gi, gj, cv, mv) e = no (gi refl)
un_seq M N f l w x y (i, false, u, eu, hi, hj, cu, mu) (false, j, v, ev, gi, gj, cv, mv) e = (
  i,
  j,
  u ++ v,
  e ∙ ap (λ t. t ++ y) eu ∙ ap (λ t. (opening i ++ (u ++ [])) ++ t) ev ∙ join_frames (opening i) u v (closing j),
  hi,
  gj,
  all-append u v cu cv,
  λ b a hb ha. (u, v, mu b (v ++ a) hb (λ z. no z), mv (b ++ u) a (λ z. no z) ha, refl),
)

un_more : (M N : Text → Text → Text → Type 0) (f l : Bool) (w : Text) → ((b u a : Text) → M b u a → N b u a) → Unframed M f l w → Unframed N f l w
un_more M N f l w g (i, j, u, eu, hi, hj, cu, mu) = (i, j, u, eu, hi, hj, cu, λ b a hb ha. g b u a (mu b a hb ha))

abbrev Plain : (Text → Text → Text → Type 0) → Text → Type 0
Plain M w = (All IsChar w) × ((b a : Text) → M b w a)

plain : (M : Text → Text → Text → Type 0) (w : Text) → Unframed M false false w → Plain M w
plain M w (true, j, u, eu, hi, hj, cu, mu) = no (hi refl)
plain M w (false, true, u, eu, hi, hj, cu, mu) = no (hj refl)
plain M w (false, false, u, eu, hi, hj, cu, mu) =
    let e : u ≡ w = sym (append-nil u) ∙ sym eu in
    (subst (All IsChar) e cu, λ b a. subst (λ x. M b x a) e (mu b a (λ z. no z) (λ z. no z)))

star_at : (M : Text → Text → Text → Type 0) (us : List Text) → All (Plain M) us → (All IsChar (joined us)) × ((b a : Text) → AllAt M b us a)
star_at M [] h = (All-nil IsChar, λ b a. tt)
star_at M (u ∷ us) h =
    let x = All-head (Plain M) u us h in let y = star_at M us (All-tail (Plain M) u us h) in
    (all-append u (joined us) x.0 y.0, λ b a. (x.1 b (joined us ++ a), y.1 (b ++ u) a))

un : (p : Expr) (f l : Bool) (w : Text) → starts_well f p ≡ true → ends_well l p ≡ true → characters p ≡ true → Matches p w → Unframed (MatchesAt p) f l w
un blank f l w hs he hc m = (false, false, [], m, λ z. no z, λ z. no z, All-nil IsChar, λ b a hb ha. refl)
un (one n rs) f l w hs he hc m = un_one (is_edge 1114112 n rs) (is_edge 1114113 n rs) f l n rs w refl refl hs he hc m
un (seq p q) f l w hs he hc m =
    let s = and-to (starts_well f p) (starts_well false q) hs in
    let e = and-to (ends_well false p) (ends_well l q) he in
    let c = and-to (characters p) (characters q) hc in
    un_seq (MatchesAt p) (MatchesAt q) f l w m.0 m.1 (un p f false m.0 s.0 e.0 c.0 m.2) (un q false l m.1 s.1 e.1 c.1 m.3) m.4
un (alt p q) f l w hs he hc m =
    let s = and-to (starts_well f p) (starts_well f q) hs in
    let e = and-to (ends_well l p) (ends_well l q) he in
    let c = and-to (characters p) (characters q) hc in
    elim m as (λ _. Unframed (MatchesAt (alt p q)) f l w) [
      | inl x ↦ un_more (MatchesAt p) (MatchesAt (alt p q)) f l w (λ b u a h. inl h) (un p f l w s.0 e.0 c.0 x)
      | inr y ↦ un_more (MatchesAt q) (MatchesAt (alt p q)) f l w (λ b u a h. inr h) (un q f l w s.1 e.1 c.1 y)
    ]
un (star p) f l w hs he hc m =
    let k = star_at (MatchesAt p) m.0 (all-map (Matches p) (Plain (MatchesAt p)) (λ u h. plain (MatchesAt p) u (un p false false u hs he hc h)) m.0 m.1) in
    (false, false, joined m.0, m.2 ∙ sym (append-nil (joined m.0)), λ z. no z, λ z. no z, k.0, λ b a hb ha. (m.0, k.1 b a, refl))

re_one : (es ee f l n : Bool) (rs : List Characters) (b u a : Text) → is_edge 1114112 n rs ≡ es → is_edge 1114113 n rs ≡ ee →
    (f || not es) ≡ true → (l || not ee) ≡ true → OneAt es ee n rs b u a → Reframed (Matches (one n rs)) f l b u a
re_one true ee f l n rs b u a s e hs he m =
    (true, false, (1114112, edge_has 1114112 n rs s, ap (λ x. 1114112 ∷ (x ++ [])) m.0), λ _. or_no f hs, λ z. no z, λ _. m.1, λ z. no z)
re_one false true f l n rs b u a s e hs he m =
    (false, true, (1114113, edge_has 1114113 n rs e, ap (λ x. x ++ 1114113 ∷ []) m.0), λ z. no z, λ _. or_no l he, λ z. no z, λ _. m.1)
re_one false false f l n rs b u a s e hs he m =
    (false, false, (m.0, m.1, append-nil u ∙ m.2), λ z. no z, λ z. no z, λ z. no z, λ z. no z)

re_seq : (p q : Expr) (f l : Bool) (b w u v a : Text) → Reframed (Matches p) f false b u (v ++ a) → Reframed (Matches q) false l (b ++ u) v a → w ≡ u ++ v →
    Reframed (Matches (seq p q)) f l b w a
re_seq p q f l b w u v a (i, true, mu, hi, hj, hb, ha) y e = no (hj refl)
re_seq p q f l b w u v a (i, false, mu, hi, hj, hb, ha) (true, j, mv, gi, gj, gb, ga) e = no (gi refl)
re_seq p q f l b w u v a (i, false, mu, hi, hj, hb, ha) (false, j, mv, gi, gj, gb, ga) e = (
  i,
  j,
  (opening i ++ (u ++ []), v ++ closing j, mu, mv, ap (λ t. opening i ++ (t ++ closing j)) e ∙ sym (join_frames (opening i) u v (closing j))),
  hi,
  gj,
  hb,
  ga,
)

re_more : (N O : Text → Type 0) (f l : Bool) (b u a : Text) → ((w : Text) → N w → O w) → Reframed N f l b u a → Reframed O f l b u a
re_more N O f l b u a g (i, j, mu, hi, hj, hb, ha) = (i, j, g (opening i ++ (u ++ closing j)) mu, hi, hj, hb, ha)

re_plain : (N : Text → Type 0) (b u a : Text) → Reframed N false false b u a → N u
re_plain N b u a (true, j, mu, hi, hj, hb, ha) = no (hi refl)
re_plain N b u a (false, true, mu, hi, hj, hb, ha) = no (hj refl)
re_plain N b u a (false, false, mu, hi, hj, hb, ha) = subst N (append-nil u) mu

re_star : (M : Text → Text → Text → Type 0) (N : Text → Type 0) → ((b u a : Text) → M b u a → N u) → (us : List Text) (b a : Text) → AllAt M b us a → All N us
re_star M N g [] b a h = All-nil N
re_star M N g (u ∷ us) b a h = All-cons N u us (g b u (joined us ++ a) h.0) (re_star M N g us (b ++ u) a h.1)

re : (p : Expr) (f l : Bool) (b w a : Text) → starts_well f p ≡ true → ends_well l p ≡ true → MatchesAt p b w a → Reframed (Matches p) f l b w a
re blank f l b w a hs he m = (false, false, ap (λ x. x ++ []) m, λ z. no z, λ z. no z, λ z. no z, λ z. no z)
re (one n rs) f l b w a hs he m = re_one (is_edge 1114112 n rs) (is_edge 1114113 n rs) f l n rs b w a refl refl hs he m
re (seq p q) f l b w a hs he m =
    let s = and-to (starts_well f p) (starts_well false q) hs in
    let e = and-to (ends_well false p) (ends_well l q) he in
    re_seq p q f l b w m.0 m.1 a (re p f false b m.0 (m.1 ++ a) s.0 e.0 m.2) (re q false l (b ++ m.0) m.1 a s.1 e.1 m.3) m.4
re (alt p q) f l b w a hs he m =
    let s = and-to (starts_well f p) (starts_well f q) hs in
    let e = and-to (ends_well l p) (ends_well l q) he in
    elim m as (λ _. Reframed (Matches (alt p q)) f l b w a) [
      | inl x ↦ re_more (Matches p) (Matches (alt p q)) f l b w a (λ t h. inl h) (re p f l b w a s.0 e.0 x)
      | inr y ↦ re_more (Matches q) (Matches (alt p q)) f l b w a (λ t h. inr h) (re q f l b w a s.1 e.1 y)
    ]
re (star p) f l b w a hs he m = (
  false,
  false,
  (m.0, re_star (MatchesAt p) (Matches p) (λ x u y h. re_plain (Matches p) x u y (re p false false x u y hs he h)) m.0 b a m.1, append-nil w ∙ m.2),
  λ z. no z,
  λ z. no z,
  λ z. no z,
  λ z. no z,
)

begins : (j : Bool) (u w a : Text) → All IsChar u → All IsChar w → w ++ 1114113 ∷ [] ≡ (u ++ closing j) ++ a →
    (rest : Text) × (w ≡ u ++ rest) × (j ≡ true → rest ≡ [])
begins false [] w a hu hw e = (w, refl, λ z. no z)
begins true [] [] a hu hw e = ([], refl, λ _. refl)
begins true [] (d ∷ w) a hu hw e =
    let h : d < 1114112 = All-head IsChar d w hw in let k : d ≡ 1114113 = cons-head d 1114113 (w ++ 1114113 ∷ []) a e in absurd (omega arith)
begins j (c ∷ u) [] a hu hw e =
    let h : c < 1114112 = All-head IsChar c u hu in let k : 1114113 ≡ c = cons-head 1114113 c [] ((u ++ closing j) ++ a) e in absurd (omega arith)
begins j (c ∷ u) (d ∷ w) a hu hw e =
    let h = begins j u w a (All-tail IsChar c u hu) (All-tail IsChar d w hw) (cons-tail d c (w ++ 1114113 ∷ []) ((u ++ closing j) ++ a) e) in
    (h.0, ap (λ x. x ∷ w) (cons-head d c (w ++ 1114113 ∷ []) ((u ++ closing j) ++ a) e) ∙ ap (λ t. c ∷ t) h.1, h.2)

no_text_left : (b u y a : Text) → [] ≡ b ++ ((u ++ y) ++ a) → u ≡ []
no_text_left [] [] y a e = refl
no_text_left [] (c ∷ u) y a e = absurd (cc e)
no_text_left (c ∷ b) u y a e = absurd (cc e)

inside : (j : Bool) (u b w a : Text) → All IsChar u → All IsChar w → w ++ 1114113 ∷ [] ≡ b ++ ((u ++ closing j) ++ a) →
    (before : Text) × (rest : Text) × (w ≡ before ++ (u ++ rest)) × (j ≡ true → rest ≡ [])
inside j u [] w a hu hw e = let h = begins j u w a hu hw e in ([], h.0, h.1, h.2)
inside j u (c ∷ b) [] a hu hw e =
    let k = no_text_left b u (closing j) a (cons-tail 1114113 c [] (b ++ ((u ++ closing j) ++ a)) e) in
    ([], [], sym (ap (λ t. t ++ []) k), λ _. refl)
inside j u (c ∷ b) (d ∷ w) a hu hw e =
    let h = inside j u b w a hu (All-tail IsChar d w hw) (cons-tail d c (w ++ 1114113 ∷ []) (b ++ ((u ++ closing j) ++ a)) e) in
    (d ∷ h.0, h.1, ap (λ t. d ∷ t) h.2, h.3)

no_start : {A : Type 0} (b x w : Text) → All IsChar w → w ++ 1114113 ∷ [] ≡ b ++ (1114112 ∷ x) → A
no_start [] x [] hw e = apart 1114112 1114113 (omega arith) (sym (cons-head 1114113 1114112 [] x e))
no_start [] x (d ∷ w) hw e =
    let h : d < 1114112 = All-head IsChar d w hw in let k : d ≡ 1114112 = cons-head d 1114112 (w ++ 1114113 ∷ []) x e in absurd (omega arith)
no_start (c ∷ []) x [] hw e = let k = cons-tail 1114113 c [] (1114112 ∷ x) e in absurd (cc k)
no_start (c ∷ d ∷ b) x [] hw e = let k = cons-tail 1114113 c [] (d ∷ (b ++ (1114112 ∷ x))) e in absurd (cc k)
no_start (c ∷ b) x (d ∷ w) hw e =
    no_start b x w (All-tail IsChar d w hw) (cons-tail d c (w ++ 1114113 ∷ []) (b ++ (1114112 ∷ x)) e)

-- where a part of a framed text stands in the text
abbrev Stands : Bool → Bool → Text → Text → Type 0
Stands i j u w = (b : Text) × (a : Text) × (w ≡ b ++ (u ++ a)) × (i ≡ true → b ≡ []) × (j ≡ true → a ≡ [])

stands : (i j : Bool) (u b w a : Text) → All IsChar u → All IsChar w →
    1114112 ∷ (w ++ 1114113 ∷ []) ≡ b ++ ((opening i ++ (u ++ closing j)) ++ a) → Stands i j u w
stands true j u [] w a hu hw e =
    let h = begins j u w a hu hw (cons-tail 1114112 1114112 (w ++ 1114113 ∷ []) ((u ++ closing j) ++ a) e) in
    ([], h.0, h.1, λ _. refl, h.2)
stands false false [] [] w a hu hw e = ([], w, refl, λ z. no z, λ z. no z)
stands false true [] [] w a hu hw e =
    apart 1114112 1114113 (omega arith) (cons-head 1114112 1114113 (w ++ 1114113 ∷ []) a e)
stands false j (c ∷ u) [] w a hu hw e =
    let h : c < 1114112 = All-head IsChar c u hu in
    let k : 1114112 ≡ c = cons-head 1114112 c (w ++ 1114113 ∷ []) ((u ++ closing j) ++ a) e in absurd (omega arith)
stands true j u (c ∷ b) w a hu hw e =
    no_start b ((u ++ closing j) ++ a) w hw (cons-tail 1114112 c (w ++ 1114113 ∷ []) (b ++ ((1114112 ∷ (u ++ closing j)) ++ a)) e)
stands false j u (c ∷ b) w a hu hw e =
    let h = inside j u b w a hu hw (cons-tail 1114112 c (w ++ 1114113 ∷ []) (b ++ ((u ++ closing j) ++ a)) e) in
    (h.0, h.1, h.2, λ z. no z, h.3)

found_at : (p : Expr) (b x w a : Text) → All IsChar w → framed w ≡ b ++ (x ++ a) → Unframed (MatchesAt p) true true x → FindsAt p w
found_at p b x w a hw e (i, j, u, eu, hi, hj, cu, mu) =
    let s = stands i j u b w a cu hw (e ∙ ap (λ t. b ++ (t ++ a)) eu) in
    (s.0, u, s.1, mu s.0 s.1 s.3 s.4, s.2)

pub finds_at-to : (p : Expr) (w : Text) → is_placed p ≡ true → All IsChar w → Finds p (framed w) → FindsAt p w
finds_at-to p w h hw f =
    let k = and-to (starts_well true p && ends_well true p) (characters p) h in
    let s = and-to (starts_well true p) (ends_well true p) k.0 in
    found_at p f.0 f.1 w f.2 hw f.4 (un p true true f.1 s.0 s.1 k.1 f.3)

both_ends : (u : Text) → (u ++ []) ++ 1114113 ∷ [] ≡ (u ++ 1114113 ∷ []) ++ []
both_ends u = simp (append_assoc, append-nil) refl

one_end : (u a : Text) → (u ++ a) ++ 1114113 ∷ [] ≡ (u ++ []) ++ (a ++ 1114113 ∷ [])
one_end u a = simp (append_assoc, append-nil) refl

last_end : (b u : Text) → (b ++ (u ++ [])) ++ 1114113 ∷ [] ≡ b ++ ((u ++ 1114113 ∷ []) ++ [])
last_end b u = simp (append_assoc, append-nil) refl

no_end : (b u a : Text) → (b ++ (u ++ a)) ++ 1114113 ∷ [] ≡ b ++ ((u ++ []) ++ (a ++ 1114113 ∷ []))
no_end b u a = simp (append_assoc, append-nil) refl

found_in : (p : Expr) (b u a w : Text) → w ≡ b ++ (u ++ a) → Reframed (Matches p) true true b u a → Finds p (framed w)
found_in p b u a w e (true, true, m, hi, hj, hb, ha) =
    let f : w ≡ [] ++ (u ++ []) = e ∙ ap (λ t. t ++ (u ++ a)) (hb refl) ∙ ap (λ t. u ++ t) (ha refl) in
    ([], 1114112 ∷ (u ++ 1114113 ∷ []), [], m, ap (λ t. 1114112 ∷ (t ++ 1114113 ∷ [])) f ∙ ap (λ t. 1114112 ∷ t) (both_ends u))
found_in p b u a w e (true, false, m, hi, hj, hb, ha) =
    let f : w ≡ u ++ a = e ∙ ap (λ t. t ++ (u ++ a)) (hb refl) in
    ([], 1114112 ∷ (u ++ []), a ++ 1114113 ∷ [], m, ap (λ t. 1114112 ∷ (t ++ 1114113 ∷ [])) f ∙ ap (λ t. 1114112 ∷ t) (one_end u a))
found_in p b u a w e (false, true, m, hi, hj, hb, ha) =
    let f : w ≡ b ++ (u ++ []) = e ∙ ap (λ t. b ++ (u ++ t)) (ha refl) in
    (1114112 ∷ b, u ++ 1114113 ∷ [], [], m, ap (λ t. 1114112 ∷ (t ++ 1114113 ∷ [])) f ∙ ap (λ t. 1114112 ∷ t) (last_end b u))
found_in p b u a w e (false, false, m, hi, hj, hb, ha) =
    (1114112 ∷ b, u ++ [], a ++ 1114113 ∷ [], m, ap (λ t. 1114112 ∷ (t ++ 1114113 ∷ [])) e ∙ ap (λ t. 1114112 ∷ t) (no_end b u a))

pub finds_at-from : (p : Expr) (w : Text) → is_placed p ≡ true → FindsAt p w → Finds p (framed w)
finds_at-from p w h f =
    let k = and-to (starts_well true p && ends_well true p) (characters p) h in
    let s = and-to (starts_well true p) (ends_well true p) k.0 in
    found_in p f.0 f.1 f.2 w f.4 (re p true true f.0 f.1 f.2 s.0 s.1 f.3)
