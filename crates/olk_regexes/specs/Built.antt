-- What was built asks for.
use Rattle.std.specs.Prelude.{Option, Some, None}
use Rattle.olk_regexes.specs.Language.{Expr}
use Rattle.olk_regexes.specs.Marks.{expr}
use Rattle.olk_regexes.specs.Rules.{Rule}
use Rattle.olk_regexes.specs.declared.part.Part.{Part}
use Rattle.olk_regexes.specs.declared.pattern.Pattern.{Pattern}

abbrev pub seen_part : Option Part → Option Expr
seen_part None = None
seen_part (Some p) = Some (expr p.regex)

-- what a pattern asks for that was built
abbrev pub rule_of_engine : Pattern → Rule
rule_of_engine p = (expr p.wanted.regex, seen_part p.refused)

abbrev pub seen_engine : Option Pattern → Option Rule
seen_engine None = None
seen_engine (Some p) = Some (rule_of_engine p)
