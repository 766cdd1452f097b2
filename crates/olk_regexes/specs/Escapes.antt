-- How an escape is read, behind its backslash: that of ECMA-262, with its flag u.
use Rattle.std.specs.Prelude.{ℕ, ◌+◌, ◌-◌, ◌*◌, ◌%◌, ◌==◌, Bool, true, false, ◌&&◌, List, [], ◌∷◌, Option, Some, None, if◌then◌else◌, codes}
use Rattle.std.specs.Char.{is_ascii_alphabetic, is_ascii_digit, is_digit, digit_value}
use Rattle.std.specs.List.{list_any}
use Rattle.std.specs.Option.{unwrap_or}
use lib.Dec.{leb}
use Rattle.olk_regexes.specs.Language.{Text}
use Rattle.olk_regexes.specs.Sets.{digits, no_digits, words, no_words, spaces, no_spaces}
use Rattle.olk_regexes.specs.Categories.{names}
use Rattle.olk_regexes.specs.declared.category.Category.{Category}
use Rattle.olk_regexes.specs.declared.class.Characters.{Characters}
use Rattle.olk_regexes.specs.declared.class.Characters.TheVariants.{Property}

-- what was read, and what is left
abbrev pub Read : Type 0 → Type 0
Read A = Option (A × Text)

abbrev pub next : {A B : Type 0} → Read A → (A → Text → Read B) → Read B
next None f = None
next (Some p) f = f p.0 p.1

-- a character or a set
pub data Item : Type 0 where
  char : ℕ → Item
  set : List Characters → Item

abbrev pub two_hex : Text → Read ℕ
two_hex [] = None
two_hex (a ∷ []) = None
two_hex (a ∷ b ∷ w) = if is_digit a 16 && is_digit b 16 then Some (digit_value a * 16 + digit_value b, w) else None

-- two and two digits
abbrev pub four_hex : Text → Read ℕ
four_hex w = next (two_hex w) (λ high v. next (two_hex v) (λ low u. Some (high * 256 + low, u)))

-- a trailing surrogate, by an escape of its own
abbrev pub trail : Text → Read ℕ
trail [] = None
trail (b ∷ []) = None
trail (b ∷ u ∷ w) = if (b == 92) && (u == 117)
    then next (four_hex w) (λ t v. if leb 56320 t && leb t 57343 then Some (t, v) else None)
    else None

abbrev pub pair_or_alone : ℕ → Text → Read ℕ → Read ℕ
pair_or_alone h w None = Some (h, w)
pair_or_alone h w (Some p) = Some ((h - 55296) * 1024 + (p.0 - 56320) + 65536, p.1)

-- a leading surrogate with a trailing one behind it is one character; every other code is one alone
abbrev pub paired : ℕ → Text → Read ℕ
paired h w = if leb 55296 h && leb h 56319 then pair_or_alone h w (trail w) else Some (h, w)

-- the hexadecimal digits of a code, read until it is no character's
abbrev pub code_from : ℕ → Text → ℕ × Text
code_from n [] = (n, [])
code_from n (c ∷ w) = if is_digit c 16 then code_from (if leb n 1114111 then n * 16 + digit_value c else n) w else (n, c ∷ w)

abbrev pub code_end : ℕ → Text → Read ℕ
code_end n [] = None
code_end n (c ∷ w) = if (c == 125) && leb n 1114111 then Some (n, w) else None

-- a code in braces, behind the opening one
abbrev pub braced_code : Text → Read ℕ
braced_code [] = None
braced_code (c ∷ w) = if is_digit c 16 then code_end (code_from 0 (c ∷ w)).0 (code_from 0 (c ∷ w)).1 else None

abbrev pub unicode : Text → Read ℕ
unicode [] = None
unicode (c ∷ w) = if c == 123 then braced_code w else next (four_hex (c ∷ w)) paired

-- a letter of ASCII, which stands for the control character whose code is its own modulo 32
abbrev pub control : Text → Read ℕ
control [] = None
control (c ∷ w) = if is_ascii_alphabetic c then Some (c % 32, w) else None

abbrev pub begins_digit : Text → Bool
begins_digit [] = false
begins_digit (c ∷ w) = is_ascii_digit c

-- an escaped character other than those above
abbrev pub plain_escape : ℕ → Option ℕ
plain_escape c =
    if c == 110 then Some 10 else
    if c == 114 then Some 13 else
    if c == 116 then Some 9 else
    if c == 102 then Some 12 else
    if c == 118 then Some 11 else
    if list_any (λ d. c == d) (codes "^$\\.*+?()[]{}|/") then Some c else None

abbrev pub with_rest : Text → Option ℕ → Read ℕ
with_rest w None = None
with_rest w (Some c) = Some (c, w)

abbrev pub escaped_char : ℕ → Text → Read ℕ
escaped_char c w =
    if c == 120 then two_hex w else
    if c == 117 then unicode w else
    if c == 99 then control w else
    if c == 48 then (if begins_digit w then None else Some (0, w)) else with_rest w (plain_escape c)

abbrev pub escaped_set : ℕ → Option (List Characters)
escaped_set c =
    if c == 100 then Some digits else
    if c == 68 then Some no_digits else
    if c == 119 then Some words else
    if c == 87 then Some no_words else
    if c == 115 then Some spaces else
    if c == 83 then Some no_spaces else None

abbrev pub set_or_char : ℕ → Text → Option (List Characters) → Read Item
set_or_char c w (Some rs) = Some (set rs, w)
set_or_char c w None = next (escaped_char c w) (λ x v. Some (char x, v))

-- what is behind the name, if the text begins with it
abbrev pub behind : Text → Text → Option Text
behind [] w = Some w
behind (n ∷ ns) [] = None
behind (n ∷ ns) (c ∷ w) = if n == c then behind ns w else None

-- what is behind the closing brace of a name
abbrev pub name_end : Option Text → Option Text
name_end None = None
name_end (Some []) = None
name_end (Some (c ∷ w)) = if c == 125 then Some w else None

abbrev pub category_or : Category → Option Text → Read Category → Read Category
category_or k None more = more
category_or k (Some w) more = Some (k, w)

-- the category with the name that stands before a closing brace
abbrev pub category_in : List (Text × Category) → Text → Read Category
category_in [] w = None
category_in (row ∷ rows) w = category_or row.1 (name_end (behind row.0 w)) (category_in rows w)

-- a category's name, without the property's and the `=` before it
abbrev pub value : Text → Text
value w = unwrap_or (behind (codes "General_Category=") w) (unwrap_or (behind (codes "gc=") w) w)

-- a category in braces
abbrev pub category : Text → Read Category
category [] = None
category (c ∷ w) = if c == 123 then category_in names (value w) else None

abbrev pub property : Bool → Text → Read Item
property negated w = next (category w) (λ k v. Some (set (Property k negated ∷ []), v))

abbrev pub escape : Text → Read Item
escape [] = None
escape (c ∷ w) =
    if c == 112 then property false w else
    if c == 80 then property true w else set_or_char c w (escaped_set c)
