-- The literal patterns: the tests of a text that they stand for, their grammar, and the same read from left to right.
use Rattle.std.specs.Prelude.{◌≡◌, ◌≢◌, ◌≤◌, ℕ, List, [], ◌∷◌, ◌++◌, Bool, true, false, not, ◌&&◌, ◌==◌, if◌then◌else◌, Option, Some, None, map, length, chars, codes, nat_eq, nat_le, bytes_eq, encode_utf8_all}
use Rattle.std.specs.List.{list_any, list_all, starts_with, ends_with, join_with_byte}
use Rattle.olk_spec.specs.Names.{Text, Name, is_empty}

-- the characters `\ ^ $ . * + ? ( ) [ ] { } |`
abbrev pub special_chars : List ℕ
special_chars = 92 ∷ 94 ∷ 36 ∷ 46 ∷ 42 ∷ 43 ∷ 63 ∷ 40 ∷ 41 ∷ 91 ∷ 93 ∷ 123 ∷ 125 ∷ 124 ∷ []

abbrev pub is_special : ℕ → Bool
is_special c = list_any (λ s. s == c) special_chars

-- what may follow a backslash: a special character or `/`
abbrev pub is_escapable : ℕ → Bool
is_escapable c = list_any (λ s. s == c) (47 ∷ special_chars)

-- the white space of ECMA-262, 25 characters
abbrev pub ecma_whitespace : List ℕ
ecma_whitespace =
    0x9 ∷ 0xa ∷ 0xb ∷ 0xc ∷ 0xd ∷ 0x20 ∷ 0xa0 ∷ 0x1680 ∷ 0x2000 ∷ 0x2001 ∷ 0x2002 ∷ 0x2003 ∷ 0x2004 ∷ 0x2005 ∷ 0x2006 ∷ 0x2007 ∷ 0x2008
    ∷ 0x2009 ∷ 0x200a ∷ 0x2028 ∷ 0x2029 ∷ 0x202f ∷ 0x205f ∷ 0x3000 ∷ 0xfeff ∷ []

abbrev pub is_ecma_whitespace : ℕ → Bool
is_ecma_whitespace c = list_any (λ s. s == c) ecma_whitespace

abbrev pub has_ecma_whitespace : Text → Bool
has_ecma_whitespace text = list_any is_ecma_whitespace (chars text)

-- a test of a text
pub data Literal : Type 0 where
  starts_with_text : Text → Literal
  ends_with_text : Text → Literal
  equals_text : Text → Literal
  is_one_of : List Text → Literal
  has_no_whitespace : Literal

abbrev pub passes : Literal → Name → Bool
passes (starts_with_text t) n = starts_with nat_eq n t
passes (ends_with_text t) n = ends_with nat_eq n t
passes (equals_text t) n = bytes_eq t n
passes (is_one_of ts) n = list_any (λ t. bytes_eq t n) ts
passes has_no_whitespace n = not (has_ecma_whitespace n)

-- ---- the grammar, over characters

-- the characters p spell the characters t, item by item
pub data Spells : List ℕ → List ℕ → Type 0 where
  none : Spells [] []
  plain : {c : ℕ} {p t : List ℕ} → is_special c ≡ false → Spells p t → Spells (c ∷ p) (c ∷ t)
  escaped : {b c : ℕ} {p t : List ℕ} → b ≡ 92 → is_escapable c ≡ true → Spells p t → Spells (b ∷ c ∷ p) (c ∷ t)

-- one item or more, whose text is t
pub record IsBody (p : List ℕ) (t : Text) : Type 0 where
  pub spelled : List ℕ
  pub spells : Spells p spelled
  pub some : spelled ≢ []
  pub text : t ≡ encode_utf8_all spelled

abbrev pub AreBodies : List (List ℕ) → List Text → Type 0
AreBodies [] [] = Unit {0}
AreBodies [] (t ∷ ts) = ⊥
AreBodies (b ∷ bs) [] = ⊥
AreBodies (b ∷ bs) (t ∷ ts) = IsBody b t × AreBodies bs ts

-- the pattern p stands for this test
abbrev pub IsPatternOf : Literal → List ℕ → Type 0
IsPatternOf (starts_with_text t) p = (b : List ℕ) × (p ≡ 94 ∷ b) × IsBody b t
IsPatternOf (ends_with_text t) p = (b : List ℕ) × (p ≡ b ++ 36 ∷ []) × IsBody b t
IsPatternOf (equals_text t) p = (b : List ℕ) × (p ≡ 94 ∷ (b ++ 36 ∷ [])) × IsBody b t
IsPatternOf (is_one_of ts) p = (bs : List (List ℕ)) × (p ≡ 94 ∷ 40 ∷ (join_with_byte 124 bs ++ 41 ∷ 36 ∷ [])) × (2 ≤ length bs) × AreBodies bs ts
IsPatternOf has_no_whitespace p = p ≡ codes "^\\S*$"

-- ---- the same, read from left to right

abbrev pub put_front : ℕ → List ℕ × List ℕ → List ℕ × List ℕ
put_front c r = (c ∷ r.0, r.1)

-- the text of the items at the start, and what is left
abbrev mutual
  pub body_of : List ℕ → List ℕ × List ℕ
  body_of [] = ([], [])
  body_of (c ∷ cs) = (if c == 92 then escape_of c cs else (if is_special c then ([], c ∷ cs) else put_front c (body_of cs)))

  pub escape_of : ℕ → List ℕ → List ℕ × List ℕ
  escape_of b [] = ([], b ∷ [])
  escape_of b (c ∷ cs) = (if is_escapable c then put_front c (body_of cs) else ([], b ∷ c ∷ cs))

abbrev pub put_first : ℕ → List (List ℕ) × List ℕ → List (List ℕ) × List ℕ
put_first c ([], r) = ((c ∷ []) ∷ [], r)
put_first c (t ∷ ts, r) = ((c ∷ t) ∷ ts, r)

-- the texts of the bodies at the start, with `|` between them, and what is left
abbrev mutual
  pub bodies_of : List ℕ → List (List ℕ) × List ℕ
  bodies_of [] = ([] ∷ [], [])
  bodies_of (c ∷ cs) =
      (if c == 92 then escape_in c cs
      else (if c == 124 then ([] ∷ (bodies_of cs).0, (bodies_of cs).1)
      else (if is_special c then ([] ∷ [], c ∷ cs) else put_first c (bodies_of cs))))

  pub escape_in : ℕ → List ℕ → List (List ℕ) × List ℕ
  escape_in b [] = ([] ∷ [], b ∷ [])
  escape_in b (c ∷ cs) = (if is_escapable c then put_first c (bodies_of cs) else ([] ∷ [], b ∷ c ∷ cs))

-- behind `^`: one body, and what is left
abbrev pub single : List ℕ × List ℕ → Option Literal
single r =
    (if is_empty r.0 then None
    else (if is_empty r.1 then Some (starts_with_text (encode_utf8_all r.0))
    else (if bytes_eq r.1 (codes "$") then Some (equals_text (encode_utf8_all r.0)) else None)))

-- behind `^(`: bodies, and what is left
abbrev pub alternation : List (List ℕ) × List ℕ → Option Literal
alternation r =
    (if list_all (λ t. not (is_empty t)) r.0 && nat_le 2 (length r.0) && bytes_eq r.1 (codes ")$") then Some (is_one_of (map encode_utf8_all r.0)) else None)

abbrev pub anchored : List ℕ → Option Literal
anchored [] = None
anchored (c ∷ cs) = (if c == 40 then alternation (bodies_of cs) else single (body_of (c ∷ cs)))

-- without `^`: one body, and what is left
abbrev pub suffix : List ℕ × List ℕ → Option Literal
suffix r = (if not (is_empty r.0) && bytes_eq r.1 (codes "$") then Some (ends_with_text (encode_utf8_all r.0)) else None)

-- the test that a pattern stands for, from its characters
abbrev pub literal_in : List ℕ → Option Literal
literal_in [] = None
literal_in (c ∷ cs) = (if bytes_eq (c ∷ cs) (codes "^\\S*$") then Some has_no_whitespace else (if c == 94 then anchored cs else suffix (body_of (c ∷ cs))))

unfoldable pub literal : Text → Option Literal
literal p = literal_in (chars p)

-- ---- what the relation and the function have to do with each other

-- the function gives a test exactly where the grammar has one, and then that one
abbrev pub Literal_is_grammar : Type 0
Literal_is_grammar = (p : Text) (l : Literal) → (literal p ≡ Some l → IsPatternOf l (chars p)) × (IsPatternOf l (chars p) → literal p ≡ Some l)
