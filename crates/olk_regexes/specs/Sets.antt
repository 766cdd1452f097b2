-- The sets that an escape names.
use Rattle.std.specs.Prelude.{ℕ, List, [], ◌∷◌}
use Rattle.olk_regexes.specs.declared.class.Characters.{Characters}
use Rattle.olk_regexes.specs.declared.class.Characters.TheVariants.{Range}

abbrev pub range : ℕ → ℕ → Characters
range a b = Range a b

abbrev pub digits : List Characters
digits = range 48 57 ∷ []

abbrev pub no_digits : List Characters
no_digits = range 0 47 ∷ range 58 1114111 ∷ []

abbrev pub words : List Characters
words = range 48 57 ∷ range 65 90 ∷ range 95 95 ∷ range 97 122 ∷ []

abbrev pub no_words : List Characters
no_words = range 0 47 ∷ range 58 64 ∷ range 91 94 ∷ range 96 96 ∷ range 123 1114111 ∷ []

abbrev pub spaces : List Characters
spaces = range 9 13 ∷ range 32 32 ∷ range 160 160 ∷ range 5760 5760 ∷ range 8192 8202 ∷ range 8232 8233 ∷ range 8239 8239 ∷ range 8287 8287 ∷ range 12288 12288 ∷ range 65279 65279 ∷ []

abbrev pub no_spaces : List Characters
no_spaces = range 0 8 ∷ range 14 31 ∷ range 33 159 ∷ range 161 5759 ∷ range 5761 8191 ∷ range 8203 8231 ∷ range 8234 8238 ∷ range 8240 8286 ∷ range 8288 12287 ∷ range 12289 65278 ∷ range 65280 1114111 ∷ []

-- what ends a line
abbrev pub line_ends : List Characters
line_ends = range 10 10 ∷ range 13 13 ∷ range 8232 8233 ∷ []
