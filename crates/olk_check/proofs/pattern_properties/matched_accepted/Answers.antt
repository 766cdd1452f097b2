use Rattle.olk_check.proofs.Asked.{asks_as}
use Rattle.std.proofs.Common.{sym, ap, ◌∙◌}
use Rattle.serde_json.specs.View.{members_view}
use Rattle.olk_spec.specs.Schemas.{at}
use Rattle.olk_tree.specs.Questions.{every}
use Rattle.olk_tree.specs.PatternProperties.{matched_mean}
use Rattle.olk_tree.specs.Visited.{object_of}
use Rattle.olk_tree.proofs.Literals.{exact_mean}
use Rattle.olk_check.proofs.pattern_properties.matched_accepted.Goals as goal

pub returns-in-Exact : goal.returns-in-Exact
returns-in-Exact g c =
    let v = object_of c.args.members.now.entries in
    asks_as (ap (λ n. every (g.N.Means.means c.args.subschema.now) (at n v)) c.as_str.ensures.value
    ∙ exact_mean g.R.RegexEngine.answers g.R.RegexEngine.costs g.N.Means.means c.args.subschema.now (members_view c.args.members.now.entries) c.in-Exact.name c.law_of_names.ensures
    ∙ ap (λ p. matched_mean g.R.RegexEngine.answers g.R.RegexEngine.costs g.N.Means.means p c.args.subschema.now v) (sym c.in-Exact.is)) c.named_accepted.ensures
