use Rattle.olk_check.proofs.Asked.{only_same}
use Rattle.olk_errors.proofs.Patterns.{other_patterns}
use Rattle.olk_errors.proofs.Sinks.{walks_past, walks_same}
use Rattle.olk_base.specs.Nodes.{subject_data}
use Rattle.serde_json.specs.View.{members_view}
use Rattle.olk_reports.specs.Paths.{path_at}
use Rattle.olk_tree.proofs.Members_met.{object_is}
use Rattle.olk_errors.specs.Outcomes.{of_patterns}
use Rattle.olk_errors.proofs.pattern_properties.PatternPropertiesWalk.walk.Goals as goal

pub returns-in-None : goal.returns-in-None
returns-in-None g c = walks_past (only_same c.args.ctx.now)
    (λ u so. other_patterns g.R.RegexEngine.answers g.R.RegexEngine.costs g.N.Means.means g.N.Reports.first g.N.Reports.report u _ _ c.in-None.ensures c.args.self.now.patterns.items)

pub returns-in-Some : goal.returns-in-Some
returns-in-Some g c = walks_same (λ u so i. of_patterns g.R.RegexEngine.answers g.R.RegexEngine.costs g.N.Means.means g.N.Reports.first g.N.Reports.report u c.args.self.now.patterns.items
    (object_is (subject_data c.args.node) (members_view c.in-Some.members.now.entries) c.in-Some.ensures i) (path_at c.args.trail.now)) c.walk_patterns.ensures
