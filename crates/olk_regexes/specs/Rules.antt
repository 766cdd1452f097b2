-- What a pattern asks of a text.
use Rattle.std.specs.Prelude.{Bool, ◌&&◌, not, Option, Some, None}
use Rattle.olk_regexes.specs.Language.{Text, Expr, Finds}
use Rattle.olk_regexes.specs.Marks.{matches}
use Rattle.olk_regexes.specs.Search.{finds}

-- what is to be found in the text, and what is not to be found, if there is that
abbrev pub Rule : Type 0
Rule = Expr × Option Expr

-- The text has a part that the rule wants, and none that it refuses.
abbrev pub Meets : Rule → Text → Type 0
Meets (p, None) w = Finds p w
Meets (p, Some q) w = Finds p w × (Finds q w → ⊥)

-- the same as a test
abbrev pub meets : Rule → Text → Bool
meets (p, None) w = finds (matches p) w
meets (p, Some q) w = finds (matches p) w && not (finds (matches q) w)
