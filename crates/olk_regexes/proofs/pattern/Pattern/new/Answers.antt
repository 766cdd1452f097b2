use Rattle.std.proofs.Common.{option_map, sym, ap, ◌∙◌}
use Rattle.olk_regexes.specs.Built.{seen_engine}
use Rattle.olk_regexes.specs.Trees.{rule_of}
use Rattle.olk_regexes.proofs.Built.{is_built, is_not_read}
use Rattle.olk_regexes.proofs.pattern.Pattern.new.Goals as goal

pub returns : goal.returns
returns c =
    is_not_read c.args.pattern.now c.deref.result.now (c.deref.ensures.value ∙ c.in_ok-pattern.ensures)
    (sym (ap (option_map rule_of) c.in-None.is) ∙ c.in_ok-rule.ensures)

pub returns-in-Some : goal.returns-in-Some
returns-in-Some c =
    is_built c.args.pattern.now c.deref.result.now (rule_of c.in-Some.rule) (seen_engine c.in_ok-built-in-Some.field-0)
    (c.deref.ensures.value ∙ c.in_ok-pattern.ensures) (sym (ap (option_map rule_of) c.in-Some.is) ∙ c.in_ok-rule.ensures) c.in_ok-built-in-Some.ensures
