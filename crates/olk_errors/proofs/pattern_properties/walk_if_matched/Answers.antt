use Rattle.std.proofs.Common.{refl}
use Rattle.serde_json.specs.View.{view}
use Rattle.olk_spec.specs.Names.{◌//◌}
use Rattle.olk_reports.specs.Paths.{path_at}
use Rattle.olk_errors.proofs.Patterns.{unmatched, matched_as_node}
use Rattle.olk_errors.proofs.Sinks.{walks_past, walks_same, walks_asked}
use Rattle.olk_errors.specs.Outcomes.{of_node}
use Rattle.olk_check.proofs.Asked.{answer_first, verdict_of}
use Rattle.olk_errors.proofs.pattern_properties.walk_if_matched.Goals as goal

pub returns-then-not-matches : goal.returns-then-not-matches
returns-then-not-matches g c = walks_past c.if-not-matches.ensures.only
    (λ u so. unmatched g.R.RegexEngine.answers g.R.RegexEngine.costs g.N.Means.means g.N.Reports.first g.N.Reports.report u _
    c.args.pattern.now c.args.subschema.now c.args.name.now _ (verdict_of c.if-not-matches.ensures so))

pub returns : goal.returns
returns g c = walks_same (λ u so. matched_as_node g.R.RegexEngine.answers g.R.RegexEngine.costs g.N.Means.means g.N.Reports.first g.N.Reports.report u _
    c.args.pattern.now c.args.subschema.now c.args.name.now _ refl (verdict_of c.if-not-matches.ensures (answer_first c.if-not-matches.ensures.only c.walk_below.ensures.only so)))
    (walks_asked (λ u. of_node g.N.Means.means g.N.Reports.first g.N.Reports.report u c.args.subschema.now (view c.args.value.now) (path_at c.args.trail.now // c.args.name.now))
    c.if-not-matches.ensures.only c.walk_below.ensures)
