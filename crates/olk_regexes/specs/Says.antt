-- What a pattern says of a name.
use Rattle.std.specs.Prelude.{Bool, true, cond, Option, Some, None, is_some, option_map, if◌then◌else◌, ◌≡◌}
use Rattle.std.specs.Str.{chars}
use Rattle.olk_spec.specs.Names.{Text, Name}
use Rattle.olk_spec.specs.World.{Says, matched, unmatched}
use Rattle.olk_regexes.specs.Edges.{is_placed}
use Rattle.olk_regexes.specs.Language.{Expr, framed}
use Rattle.olk_regexes.specs.Limits.{fitting}
use Rattle.olk_regexes.specs.Rules.{Rule, meets}
use Rattle.olk_regexes.specs.Syntax.{rule}

-- the expression, if its edges stand where they may
abbrev pub placed : Option Expr → Option Expr
placed None = None
placed (Some p) = if is_placed p then Some p else None

-- what is refused beside `p`, if that is not too large, with its edges where they may stand
abbrev pub beside : Expr → Option Expr → Option Rule
beside p None = Some (p, None)
beside p (Some q) = option_map (λ r. (p, Some r)) (placed (fitting q))

abbrev pub beside_built : Option Expr → Option Expr → Option Rule
beside_built None q = None
beside_built (Some p) q = beside p q

-- the rule, if its expressions are not too large, with their edges where they may stand
abbrev pub built : Option Rule → Option Rule
built None = None
built (Some r) = beside_built (placed (fitting r.0)) r.1

-- what a pattern asks for that is of the syntax, and not too large
unfoldable pub rule_of_pattern : Text → Option Rule
rule_of_pattern pattern = built (rule (chars pattern))

-- each expression of the rule has its edges where they may stand
abbrev pub IsPlaced : Rule → Type 0
IsPlaced (p, None) = is_placed p ≡ true
IsPlaced (p, Some q) = (is_placed p ≡ true) × (is_placed q ≡ true)

abbrev pub says_rule : Rule → Name → Says
says_rule r name = cond (meets r (framed (chars name))) matched unmatched

abbrev pub says_read : Option Rule → Name → Says
says_read None name = unmatched
says_read (Some r) name = says_rule r name

abbrev pub builds : Text → Bool
builds pattern = is_some (rule_of_pattern pattern)

abbrev pub says : Text → Name → Says
says pattern name = says_read (rule_of_pattern pattern) name
