use Rattle.std.proofs.Common.{bytes_eq, string_bytes, ap, ◌∙◌}
use Rattle.olk_base.specs.Compiled.{pattern_answers, pattern_costs}
use Rattle.olk_check.proofs.Matchers.{match_answers, test_answers}
use Rattle.olk_check.proofs.pattern_properties.matches.Goals as goal

pub returns-in-Exact : goal.returns-in-Exact
returns-in-Exact g c = rw c.in-Exact.is (test_answers c.args.ctx.now (bytes_eq (string_bytes c.in-Exact.exact) c.args.name.now) c.is_exactly.result (c.is_exactly.ensures ∙ ap (λ s. bytes_eq s c.args.name.now) c.as_str.ensures.value))

pub returns-in_default : goal.returns-in_default
returns-in_default g c =
    match_answers (pattern_costs g.R.RegexEngine.costs c.args.pattern.now)
    (pattern_answers g.R.RegexEngine.answers c.args.pattern.now c.args.name.now) c.args.ctx.now c.is_match_in.new.ctx c.is_match_in.result c.is_match_in.ensures.answer c.is_match_in.ensures.counts
