-- Names by their first bytes, read as a number.
use Rattle.std.proofs.Common.{◌≡◌, ℕ, zero, suc, ◌+◌, ◌-◌, IsUtf8, ◌*◌, ◌/◌, ◌^◌, ◌<◌, ◌≤◌, Bool, true, false, cond, List, [], ◌∷◌, ◌++◌, length, map, get_or, Ordering, Less, Equal, Greater, String, Global, string_bytes, refl, sym, ap, subst, ◌∙◌, arith, mul-le-mul_right, subst₂, ◌≢◌, None, bytes_eq}
use Rattle.std.specs.List.{position}
use Rattle.std.specs.List.Sorted.{IsPartitionPoint, IsPartitionedBy}
use Rattle.std.proofs.lemmas.Slice.Eq.{bytes_eq-Decides}
use Rattle.std.specs.Bool.{nat_lt}
use Rattle.std.specs.Ordering.{nat_cmp, ordering_then}
use Rattle.std.specs.Cmp.Lexicographic.{slice_cmp}
use Rattle.std.proofs.lemmas.Str.{IsUtf8-string_bytes}
use Rattle.std.proofs.lemmas.List.{get_or-map, length-map}
use Rattle.std.proofs.lemmas.Bool.Decides.{nat_tests}
use native.Mathlib.Nat.{pow-suc}
use lib.Utf8.{scalar, scalars, next, encode, encodes}
use Rattle.olk_spec.specs.Names.{Name}
use Rattle.olk_spec.proofs.Truth.{and_first, and_second}
use Rattle.olk_tree.specs.declared.sorted_name.SortedName.{SortedName}
use Rattle.olk_tree.specs.Sorted.{names_of, heads_of}
use Rattle.olk_tree.specs.Ascending.{Ascend, IsBefore, IsFirst, Rise, first_bytes}
use Rattle.olk_tree.proofs.Places.{nowhere, some_entry}

-- ---- the bytes of a text are below 256

abbrev Bytes : Name → Type 0
Bytes [] = Unit {0}
Bytes (b ∷ bs) = (b < 256) × Bytes bs

bytes_append : (bs cs : Name) → Bytes bs → Bytes cs → Bytes (bs ++ cs)
bytes_append [] cs h g = g
bytes_append (b ∷ bs) cs h g = (h.0, bytes_append bs cs h.1 g)

scalar_below : (c : ℕ) → scalar c ≡ true → c < 1114112
scalar_below c e = grind (arith, nat_tests)

bytes_of_one : (c : ℕ) → scalar c ≡ true → Bytes (encode c)
unfolding encode
bytes_of_one c e = by (nat_lt c 128) _ _ refl refl refl
  where
    by : (x y z : Bool) → nat_lt c 128 ≡ x → nat_lt c 2048 ≡ y → nat_lt c 65536 ≡ z
        → Bytes (cond x (c ∷ []) (cond y ((192 + c / 64) ∷ next c ∷ []) (cond z ((224 + c / 4096) ∷ next (c / 64) ∷ next c ∷ []) ((240 + c / 262144) ∷ next (c / 4096) ∷ next (c / 64) ∷ next c ∷ []))))
    by true y z p q r = let lt : c < 128 = grind (arith, nat_tests) in (omega arith, tt)
    by false true z p q r = let lt : c < 2048 = grind (arith, nat_tests) in (omega arith, (omega arith, tt))
    by false false true p q r = let lt : c < 65536 = grind (arith, nat_tests) in (omega arith, (omega arith, (omega arith, tt)))
    by false false false p q r = let lt = scalar_below c e in (omega arith, (omega arith, (omega arith, (omega arith, tt))))

bytes_of_all : (cs : List ℕ) → scalars cs ≡ true → Bytes (encodes cs)
bytes_of_all [] e = tt
bytes_of_all (c ∷ cs) e = bytes_append (encode c) (encodes cs) (bytes_of_one c (and_first _ _ e)) (bytes_of_all cs (and_second _ _ e))

bytes_of_utf8 : (n : Name) → IsUtf8 n → Bytes n
bytes_of_utf8 n u = subst Bytes u.1.1 (bytes_of_all u.0 u.1.0)

bytes_of_text : (s : String Global) → Bytes (string_bytes s)
bytes_of_text s = bytes_of_utf8 _ (IsUtf8-string_bytes s)

bytes_at : (es : List SortedName) (k : ℕ) → Bytes (get_or (names_of es) k [])
bytes_at [] k = tt
bytes_at (e ∷ es) zero = bytes_of_text e.text
bytes_at (e ∷ es) (suc k) = bytes_at es k

-- ---- the first k bytes, as a number

abbrev worth : ℕ → Name → ℕ
worth (suc k) (b ∷ bs) = b * 256 ^ k + worth k bs
worth _ _ = 0

some_power : (k : ℕ) → 0 < 256 ^ k
some_power zero = omega arith
some_power (suc k) = let h = some_power k in omega (arith, pow-suc 256 k)

worth_below : (k : ℕ) (n : Name) → Bytes n → worth k n < 256 ^ k
worth_below zero n h = omega arith
worth_below (suc k) [] h = some_power _
worth_below (suc k) (b ∷ bs) h =
    let rest = worth_below k bs h.1 in
    let most : suc b * 256 ^ k ≤ 256 * 256 ^ k = mul-le-mul_right _ h.0 in
    grind (arith, pow-suc 256 k)

-- a smaller first byte, and a smaller number
worth_apart : (k : ℕ) {a b : ℕ} (m n : Name) → Bytes m → a < b → a * 256 ^ k + worth k m < b * 256 ^ k + worth k n
worth_apart k {a} {b} m n h lt =
    let more : suc a * 256 ^ k ≤ b * 256 ^ k = mul-le-mul_right _ lt in
    let rest = worth_below k m h in
    grind arith

worth_rises : (k : ℕ) (m n : Name) → Bytes m → Bytes n → slice_cmp nat_cmp m n ≡ Less → worth k m ≤ worth k n
worth_rises (suc k) (a ∷ m) [] g h e = absurd (greater_less e)
  where
    greater_less : Greater ≡ Less → ⊥
    greater_less e = grind arith
worth_rises (suc k) (a ∷ m) (b ∷ n) g h e = by (worth_rises k m n g.1 h.1) _ refl e
  where
    by : (slice_cmp nat_cmp m n ≡ Less → worth k m ≤ worth k n) → (o : Ordering) → nat_cmp a b ≡ o → ordering_then o (slice_cmp nat_cmp m n) ≡ Less
        → a * 256 ^ k + worth k m ≤ b * 256 ^ k + worth k n
    by rises Less p q =
        let lt : a < b = grind (arith, nat_tests) in let apart = worth_apart k m n g.1 lt in omega arith
    by rises Equal p q =
        let same : a ≡ b = grind (arith, nat_tests) in
        let rest = rises q in
        subst (λ c. a * 256 ^ k + worth k m ≤ c * 256 ^ k + worth k n) same (omega arith)
    by rises Greater p q = grind arith
worth_rises _ _ n g h e = omega arith

-- ---- the heads of names

worth_is : (n : Name) → first_bytes n ≡ worth 8 n
worth_is [] = refl
worth_is (a ∷ []) = omega arith
worth_is (a ∷ b ∷ []) = omega arith
worth_is (a ∷ b ∷ c ∷ []) = omega arith
worth_is (a ∷ b ∷ c ∷ d ∷ []) = omega arith
worth_is (a ∷ b ∷ c ∷ d ∷ e ∷ []) = omega arith
worth_is (a ∷ b ∷ c ∷ d ∷ e ∷ f ∷ []) = omega arith
worth_is (a ∷ b ∷ c ∷ d ∷ e ∷ f ∷ g ∷ []) = omega arith
worth_is (a ∷ b ∷ c ∷ d ∷ e ∷ f ∷ g ∷ h ∷ n) = omega arith

-- the first bytes that are kept
heads_are : (es : List SortedName) → heads_of es ≡ map first_bytes (names_of es)
heads_are [] = refl
heads_are (e ∷ es) = λ i. e.head_is i ∷ heads_are es i

-- the first bytes of names that ascend don't fall
heads_rise : (es : List SortedName) → Ascend (names_of es) → Rise (map first_bytes (names_of es))
heads_rise es asc i j le lt = by (nat_lt i j) refl
  where
    ks : List Name
    ks = names_of es

    inside : j < length ks
    inside = omega (arith, length-map ks first_bytes, lt)

    head_at : (k : ℕ) → k < length ks → get_or (map first_bytes ks) k 0 ≡ worth 8 (get_or ks k [])
    head_at k l = get_or-map first_bytes ks k [] 0 l ∙ worth_is _

    by : (b : Bool) → nat_lt i j ≡ b → get_or (map first_bytes ks) i 0 ≤ get_or (map first_bytes ks) j 0
    by true e =
        let less : i < j = grind (arith, nat_tests) in
        let last : j < length ks = inside in
        subst₂ (λ x y. x ≤ y) (sym (head_at i (omega arith))) (sym (head_at j inside)) (worth_rises 8 _ (get_or ks j []) (bytes_at es i) (bytes_at es j) (asc i j less inside))
    by false e = let same : i ≡ j = grind (arith, nat_tests) in subst (λ k. get_or (map first_bytes ks) i 0 ≤ get_or (map first_bytes ks) k 0) same (omega arith)

-- ---- the place of the first

pub head_read : (es : List SortedName) (k : ℕ) (x : SortedName) → k < length es → x ≡ get_or es k x → (d : ℕ) → x.head ≡ get_or (heads_of es) k d
head_read es k x lt is d = ap (λ e. e.head) is ∙ sym (get_or-map _ es k x d lt)

pub head_at_place : (es : List SortedName) (k : ℕ) (x : SortedName) → k < length es → (get_or es k x).head ≡ get_or (heads_of es) k 0
head_at_place es k x lt = sym (get_or-map _ es k x 0 lt)

as_long : (es : List SortedName) → length (heads_of es) ≡ length es
as_long es = length-map es _

module _ (es : List SortedName) {h : ℕ} where
  pub nothing_before : IsBefore (heads_of es) h 0
  nothing_before = record { inside = omega arith; below = λ i l. absurd (omega (arith, l)) }

  -- all up to a number below h are below h
  pub before_more : {k : ℕ} (x : SortedName) → Rise (heads_of es) → k < length es → x ≡ get_or es k x → x.head < h → IsBefore (heads_of es) h (k + 1)
  before_more {k} x rise lt is less = record {
    inside = omega (arith, as_long es);
    below = λ i l. let up = rise i k (omega arith) (omega (arith, as_long es, lt)) in let here = head_read es k x lt is 0 in omega arith;
  }

  pub before_hint : {place : ℕ} (x : SortedName) → Rise (heads_of es) → 0 < place → place ≤ length es → x ≡ get_or es (place - 1) x → x.head < h → IsBefore (heads_of es) h place
  before_hint {place} x rise some le is less = let at : place - 1 + 1 ≡ place = omega arith in subst (IsBefore _ h) at (before_more x rise (omega arith) is less)

  pub first_here : {place : ℕ} (x : SortedName) → IsBefore (heads_of es) h place → place < length es → x ≡ get_or es place x → h ≤ x.head → IsFirst (heads_of es) h place
  first_here {place} x before lt is le = record { before = before; here = λ l. let here = head_read es place x lt is 0 in omega arith }

  pub first_nowhere : {place : ℕ} → IsBefore (heads_of es) h place → length es ≤ place → IsFirst (heads_of es) h place
  first_nowhere before past = record { before = before; here = λ l. absurd (omega (arith, as_long es, past, l)) }

  pub within_names : {place : ℕ} → IsBefore (heads_of es) h place → place ≤ length es
  within_names before = omega (arith, as_long es, before.inside)

-- a bisection of all
module _ (es : List SortedName) (h : ℕ) (rise : Rise (heads_of es)) where
  pub heads_parted : IsPartitionedBy (λ y. nat_lt y.head h) es
  heads_parted i j d le lt less =
      let lower = head_at_place es i d (omega arith) in
      let upper = head_at_place es j d lt in
      let up = rise i j le (omega (arith, as_long es, lt)) in
      grind (arith, nat_tests)

  pub first_parted : {p : ℕ} → p ≤ length es → IsPartitionPoint (λ y. nat_lt y.head h ≡ true) (λ y. nat_lt y.head h ≡ false) es p → IsFirst (heads_of es) h p
  first_parted {p} le parted = record {
    before = record { inside = omega (arith, as_long es, le); below = below };
    here = λ l.
        let lt : p < length es = omega (arith, as_long es, l) in
        let d = some_entry es p lt in
        let t = parted.1 p d (omega arith) lt in
        let at = head_at_place es p d lt in
        grind (arith, nat_tests);
  }
    where
      below : (i : ℕ) → i < p → get_or (heads_of es) i 0 < h
      below i l =
          let lt : i < length es = omega (arith, l, le) in
          let d = some_entry es i lt in
          let at = head_at_place es i d lt in
          let t = parted.0 i d (omega arith) (omega (arith, l)) in
          grind (arith, nat_tests)

pub ruleset first_places = (nothing_before, before_more, before_hint, first_here, first_nowhere, within_names)

-- these, as those of the names that are seen
module _ (es : List SortedName) (asc : Ascend (names_of es)) where
  pub kept_rise : Rise (heads_of es)
  kept_rise = subst Rise (sym (heads_are es)) (heads_rise es asc)

  -- a name stands nowhere whose first bytes are those of none
  module _ (n : Name) {h place : ℕ} (head : h ≡ first_bytes n) (found : IsFirst (heads_of es) h place) where
    abbrev ks : List Name
    ks = names_of es

    as_many : length (heads_of es) ≡ length ks
    as_many = ap length (heads_are es) ∙ length-map ks first_bytes

    head_of_same : (i : ℕ) → i < length ks → get_or ks i [] ≡ n → get_or (heads_of es) i 0 ≡ h
    head_of_same i l e = ap (λ l. get_or l i 0) (heads_are es) ∙ get_or-map first_bytes ks i [] 0 l ∙ ap first_bytes e ∙ sym head

    module _ (differs : place < length es → get_or (heads_of es) place 0 ≢ h) where
      never : (i : ℕ) → i < length ks → get_or ks i [] ≡ n → (b : Bool) → nat_lt i place ≡ b → ⊥
      never i l e true f = let less = found.before.below i (grind (arith, nat_tests)) in let same = head_of_same i l e in omega arith
      never i l e false f =
          let behind : place ≤ i = grind (arith, nat_tests) in
          let inside : place < length (heads_of es) = omega (arith, as_many) in
          let least = found.here inside in
          let most = kept_rise place i behind (omega (arith, as_many)) in
          let same = head_of_same i l e in
          differs (omega (arith, as_long es, inside)) (omega arith)

      unlike : (i : ℕ) → i < length ks → (b : Bool) → bytes_eq (get_or ks i []) n ≡ b → bytes_eq (get_or ks i []) n ≡ false
      unlike i l true e = absurd (never i l ((bytes_eq-Decides (get_or ks i []) n).0 e) (nat_lt i place) refl)
      unlike i l false e = e

      pub unlike_none : None ≡ position (λ k. bytes_eq k n) ks
      unlike_none = nowhere ks n (λ i l. unlike i l (bytes_eq (get_or ks i []) n) refl)

-- ---- equal first bytes of equally short names

worth_same : (k : ℕ) (m n : Name) → Bytes m → Bytes n → length m ≡ length n → length m ≤ k → worth k m ≡ worth k n → m ≡ n
worth_same k [] [] g h long few e = refl
worth_same zero (a ∷ m) (b ∷ n) g h long few e = absurd (omega (arith, few))
worth_same (suc k) (a ∷ m) (b ∷ n) g h long few e = by (worth_same k m n g.1 h.1 (omega (arith, long)) (omega (arith, few))) _ _ refl refl
  where
    by : (worth k m ≡ worth k n → m ≡ n) → (x y : Bool) → nat_lt a b ≡ x → nat_lt b a ≡ y → (a ∷ m) ≡ (b ∷ n)
    by rest true y p q = let lt : a < b = grind (arith, nat_tests) in let apart = worth_apart k m n g.1 lt in absurd (omega arith)
    by rest false true p q = let lt : b < a = grind (arith, nat_tests) in let apart = worth_apart k n m h.1 lt in absurd (omega arith)
    by rest false false p q =
        let same : a ≡ b = grind (arith, nat_tests) in
        let tail = rest (grind arith) in
        λ i. same i ∷ tail i
worth_same k _ _ g h long few e = absurd (omega (arith, long))

-- a name of at most eight bytes stands where one of its length and its first bytes does
pub short_stands : (es : List SortedName) (n : Name) (place : ℕ) → place < length (names_of es) → IsUtf8 n
    → length (get_or (names_of es) place []) ≡ length n → length n ≤ 8 → get_or (heads_of es) place 0 ≡ first_bytes n → true ≡ bytes_eq (get_or (names_of es) place []) n
short_stands es n place inside u long few same = sym ((bytes_eq-Decides here n).1 (worth_same 8 here n bytes (bytes_of_utf8 n u) long (omega (arith, long, few)) worths))
  where
    ks : List Name
    ks = names_of es

    here : Name
    here = get_or ks place []

    bytes : Bytes here
    bytes = bytes_at es place

    worths : worth 8 here ≡ worth 8 n
    worths = sym (worth_is here) ∙ sym (get_or-map first_bytes ks place [] 0 inside) ∙ ap (λ hs. get_or hs place 0) (sym (heads_are es)) ∙ same ∙ worth_is n
