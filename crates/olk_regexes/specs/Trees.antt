-- What a pattern that was read stands for.
use Rattle.std.specs.Prelude.{Option, Some, None, option_map}
use Rattle.std.specs.Borrow.{Bor}
use Rattle.olk_regexes.specs.Language.{Text, Expr, blank, one, seq, alt}
use Rattle.olk_regexes.specs.Escapes.{Read}
use Rattle.olk_regexes.specs.Rules as rules
use Rattle.olk_regexes.specs.Syntax.{repeated}
use Rattle.olk_regexes.specs.declared.rule.Rule.{Rule}
use Rattle.olk_regexes.specs.declared.tree.Tree.{Tree, Blank, One, Then', Or', Repeat'}

abbrev pub expr_of : Tree → Expr
expr_of Blank = blank
expr_of (One k) = one k.negated k.members.items
expr_of (Then' _ p _ q) = seq (expr_of p) (expr_of q)
expr_of (Or' _ p _ q) = alt (expr_of p) (expr_of q)
expr_of (Repeat' _ p k) = repeated (expr_of p) k

abbrev pub seen_tree : Option (Tree × Bor Text) → Read Expr
seen_tree None = None
seen_tree (Some p) = Some (expr_of p.0, p.1.now)

abbrev pub rule_of : Rule → rules.Rule
rule_of r = (expr_of r.wanted, option_map expr_of r.refused)

abbrev pub seen_rule : Option (Rule × Bor Text) → Read rules.Rule
seen_rule None = None
seen_rule (Some p) = Some (rule_of p.0, p.1.now)
