-- How a class in brackets is read, behind its opening one.
use Rattle.std.specs.Prelude.{ℕ, zero, suc, ◌==◌, true, false, ◌&&◌, not, List, [], ◌∷◌, ◌++◌, Option, Some, None, if◌then◌else◌, length}
use lib.Dec.{leb}
use Rattle.olk_regexes.specs.Language.{Text, Expr, one}
use Rattle.olk_regexes.specs.Sets.{range}
use Rattle.olk_regexes.specs.Escapes.{Read, next, Item, char, set, escape}
use Rattle.olk_regexes.specs.declared.class.Characters.{Characters}

abbrev pub class_escape : Text → Read Item
class_escape [] = None
class_escape (c ∷ w) =
    if c == 45 then Some (char 45, w) else
    if c == 98 then Some (char 8, w) else escape (c ∷ w)

-- a character or a set
abbrev pub class_item : Text → Read Item
class_item [] = None
class_item (c ∷ w) = if c == 92 then class_escape w else Some (char c, w)

-- what is behind the `-` of a range: one before the class's end is a character
abbrev pub range_end : Text → Option Text
range_end [] = None
range_end (d ∷ []) = None
range_end (d ∷ e ∷ w) = if (d == 45) && not (e == 93) then Some (e ∷ w) else None

abbrev pub up_to : ℕ → Item → Text → Read (List Characters)
up_to low (char high) w = if leb low high then Some (range low high ∷ [], w) else None
up_to low (set rs) w = None

-- an item alone, or the range that begins with it
abbrev pub member_from : Item → Text → Option Text → Read (List Characters)
member_from (char c) w None = Some (range c c ∷ [], w)
member_from (char c) w (Some v) = next (class_item v) (up_to c)
member_from (set rs) w None = Some (rs, w)
member_from (set rs) w (Some v) = None

abbrev pub member : Text → Read (List Characters)
member w = next (class_item w) (λ i v. member_from i v (range_end v))

-- what is behind a closing bracket
abbrev pub class_end : Text → Option Text
class_end [] = None
class_end (c ∷ w) = if c == 93 then Some w else None

abbrev pub closed_or : List Characters → Option Text → Read (List Characters) → Read (List Characters)
closed_or rs None more = more
closed_or rs (Some w) more = Some (rs, w)

-- The members up to the closing bracket, behind those that were read. The number bounds how many they are.
abbrev pub members : ℕ → List Characters → Text → Read (List Characters)
members zero rs w = None
members (suc n) rs w = closed_or rs (class_end w) (next (member w) (λ more v. members n (rs ++ more) v))

-- no class has more members than the text has characters
abbrev pub all_members : Text → Read (List Characters)
all_members w = members (suc (length w)) [] w

abbrev pub class : Text → Read Expr
class [] = None
class (c ∷ w) = if c == 94
    then next (all_members w) (λ rs v. Some (one true rs, v))
    else next (all_members (c ∷ w)) (λ rs v. Some (one false rs, v))
