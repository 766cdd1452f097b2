use Rattle.olk_build.proofs.Conditions.{makes_if, if_of_form}
use Rattle.olk_build.proofs.if_.make.Goals as goal

pub returns-clause-makes : goal.returns-clause-makes
returns-clause-makes g c I = makes_if I _ c.in_ok-keyword.keyword c.args.location c.args.schema c.args.cases c.in_ok-keyword.ensures.no_then
    c.in_ok-keyword.ensures.no_else c.in_ok-keyword.ensures.form

pub returns-clause-form : goal.returns-clause-form
returns-clause-form g c = if_of_form c.in_ok-keyword.keyword c.args.location c.args.schema c.args.cases c.in_ok-keyword.ensures.form
