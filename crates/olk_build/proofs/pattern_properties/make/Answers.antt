use Rattle.std.proofs.lemmas.Result.{IfOk-weaker}
use Rattle.olk_build.proofs.PatternProperties.{is_pattern_properties, makes_pattern_properties}
use Rattle.olk_build.proofs.pattern_properties.make.Goals as goal

pub returns-clause-form : goal.returns-clause-form
returns-clause-form g c = IfOk-weaker c.form.result _ _ (λ k. is_pattern_properties k c.args.location c.in_ok-entries.entries.items _ c.in_ok-entries.ensures) c.form.ensures

pub returns-clause-makes : goal.returns-clause-makes
returns-clause-makes g c = IfOk-weaker c.form.result _ _ (λ k form I.
    makes_pattern_properties I _ k c.args.location c.args.patterns c.args.nodes.items c.in_ok-entries.entries.items
    c.in_ok-entries.ensures form) c.form.ensures
