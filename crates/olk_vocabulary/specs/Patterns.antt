-- `pattern` (JSON Schema 2020-12 Validation, 6.3.3).
use Rattle.std.specs.Prelude.{Bool, true, false, List, [], ◌++◌, Option, Some, None, codes}
use Rattle.std.specs.Option.{option_map_or}
use Rattle.std.specs.Str.{chars}
use Rattle.serde_json.specs.Data.{Data, string}
use Rattle.serde_json.specs.Find.{as_str}
use Rattle.serde_json.specs.Written.{compact_text}
use Rattle.olk_spec.specs.Names.{Text}
use Rattle.olk_spec.specs.Bench.{shown, unless}
use Rattle.olk_regexes.specs.Language.{framed}
use Rattle.olk_regexes.specs.Rules.{Rule, meets}
use Rattle.olk_regexes.specs.Says.{builds, rule_of_pattern}

-- a text that is a regular expression, and not too large
abbrev pub takes_pattern : Data → Bool
takes_pattern (string p) = builds p
takes_pattern x = false

-- whether the text has what the rule wants, and not what it refuses, with `^` true at its start and `$` at its end
abbrev pub is_found : Option Rule → Text → Bool
is_found None s = false
is_found (Some r) s = meets r (framed (chars s))

-- what is no text passes
abbrev pub has_found : Text → Data → Bool
has_found p v = option_map_or (λ s. is_found (rule_of_pattern p) s) (as_str v) true

abbrev pub pattern_text : Text → Data → Text
pattern_text p v = shown v ++ codes " does not match " ++ compact_text (string p)

abbrev pub pattern_faults : Data → Data → List Text
pattern_faults (string p) v = unless (has_found p v) (pattern_text p v)
pattern_faults x v = []
